use Rattle.std.proofs.Common.{arith}
use Rattle.sd_plan.specs.topo.Topologies.{network}
use Rattle.sd_plan.proofs.Shared.{carried_length}
use Rattle.sd_checker.proofs.check_root.Paths.{backup_root_member}
use Rattle.sd_checker.proofs.check_root.fallback.path_has_link.Goals as goal

pub walk_has_link-requires-clause-device : goal.walk_has_link-requires-clause-device
walk_has_link-requires-clause-device c = let law = c.args.planned.is_index in omega (arith, law.spans, law.fits.backup_root)

pub walk_has_link-requires-clause-range : goal.walk_has_link-requires-clause-range
walk_has_link-requires-clause-range c =
    omega (arith, carried_length (network c.args.planned.topo.now) c.args.planned.plan.now c.args.planned.index.now c.args.planned.is_index, c.requires)

pub returns : goal.returns
returns c =
    let net = network c.args.planned.topo.now in
    let plan = c.args.planned.plan.now in
    let law = c.args.planned.is_index in
    c.walk_has_link.ensures net plan law (backup_root_member net plan law.structured)
