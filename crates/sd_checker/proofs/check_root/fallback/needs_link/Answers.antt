use Rattle.std.proofs.Common.{arith}
use Rattle.sd_plan.specs.topo.Topologies.{network}
use Rattle.sd_plan.proofs.Shared.{carried_length}
use Rattle.sd_checker.proofs.check_root.fallback.needs_link.Goals as goal

pub walk_has_link-requires-clause-range : goal.walk_has_link-requires-clause-range
walk_has_link-requires-clause-range c =
    omega (arith, carried_length (network c.args.planned.topo.now) c.args.planned.plan.now c.args.planned.index.now c.args.planned.is_index, c.requires.link)
