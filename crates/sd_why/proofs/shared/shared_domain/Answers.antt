use Rattle.std.proofs.Common.{Some, None}
use Rattle.sd_plan.specs.topo.Topologies.{network}
use Rattle.sd_why.specs.Kinds as kind
use Rattle.sd_why.specs.Reasons.{IsReasonOf}
use Rattle.sd_why.specs.declared.Reason.TheVariants as reason
use Rattle.sd_why.proofs.Judging.{shared_judged}
use Rattle.sd_why.proofs.Laws.{shared_law}
use Rattle.sd_why.proofs.shared.shared_domain.Goals as goal

pub returns-in-Some-clause-judges : goal.returns-in-Some-clause-judges
returns-in-Some-clause-judges c = shared_judged (network c.args.topo.now) (Some c.in-Some.k) c.in-Some.ensures

pub returns-in-Some-clause-law : goal.returns-in-Some-clause-law
returns-in-Some-clause-law c =
    let is : IsReasonOf (network c.args.topo.now) kind.shared (reason.Shared c.in-Some.k) =
    shared_judged (network c.args.topo.now) (Some c.in-Some.k) c.in-Some.ensures in
    shared_law (network c.args.topo.now) is.holds

pub returns-in-None-clause-judges : goal.returns-in-None-clause-judges
returns-in-None-clause-judges c = shared_judged (network c.args.topo.now) None c.in-None.ensures
