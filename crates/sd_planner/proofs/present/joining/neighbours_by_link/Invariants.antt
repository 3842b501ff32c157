use Rattle.std.proofs.Common.{◌≡◌, map}
use Rattle.sd_plan.specs.topo.Network.{device_numbers}
use Rattle.sd_plan.specs.topo.Topologies.{network}
use Rattle.sd_planner.specs.Gathered.{over_before}
use Rattle.sd_planner.proofs.present.joining.neighbours_by_link.Given as goal

abbrev pub invariant-loop-l : goal.invariant-loop-l
invariant-loop-l l = l.rows.items ≡ map (over_before (network l.topo) l.usable l.l) (device_numbers (network l.topo))
