use Rattle.std.proofs.Common.{arith}
use Rattle.sd_planner.specs.Views.{net_of}
use Rattle.sd_why.specs.Bridges.{TooFewWith}
use Rattle.sd_why.proofs.BridgeCounts.{enough_links, few_judged, not_few}
use Rattle.sd_why.proofs.Needed.{few_law}
use Rattle.sd_why.proofs.few.few_links.Goals as goal

pub returns-then-devices-links-clause-judges : goal.returns-then-devices-links-clause-judges
returns-then-devices-links-clause-judges c =
    enough_links (net_of c.args.present.now) (omega (arith, c.if-devices-links.true, c.links-links.ensures, c.devices.ensures))

pub returns-then-links-bridges-clause-law : goal.returns-then-links-bridges-clause-law
returns-then-links-bridges-clause-law c =
    let net = net_of c.args.present.now in
    let lacks : TooFewWith net c.in_ok-bridges.bridges =
    omega (arith, c.if-links-bridges.true, c.links-links.ensures, c.needed_besides.ensures) in
    few_law net (few_judged net c.in_ok-bridges.bridges c.in_ok-bridges.ensures lacks).holds

pub returns-else-links-bridges-clause-judges : goal.returns-else-links-bridges-clause-judges
returns-else-links-bridges-clause-judges c =
    not_few (net_of c.args.present.now) c.in_ok-bridges.bridges c.in_ok-bridges.ensures
    (λ lacks. omega (arith, lacks, c.if-links-bridges.false, c.links-links.ensures, c.needed_besides.ensures))
