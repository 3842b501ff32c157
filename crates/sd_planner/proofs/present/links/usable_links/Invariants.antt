use Rattle.std.proofs.Common.{◌≡◌, map}
use Rattle.sd_num.specs.Lists.{below}
use Rattle.sd_plan.specs.topo.Topologies.{network}
use Rattle.sd_planner.specs.Usable.{is_usable}
use Rattle.sd_planner.proofs.present.links.usable_links.Given as goal

abbrev pub invariant-loop-l : goal.invariant-loop-l
invariant-loop-l l = l.flags.items ≡ map (is_usable (network l.topo) l.absent) (below l.l)
