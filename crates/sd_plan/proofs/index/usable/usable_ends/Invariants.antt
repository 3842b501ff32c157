use Rattle.std.proofs.Common.{◌≡◌, map}
use Rattle.sd_plan.specs.topo.Network.{device_numbers}
use Rattle.sd_plan.specs.topo.Topologies.{network}
use Rattle.sd_plan.specs.Usable.{usable_before}
use Rattle.sd_plan.proofs.index.usable.usable_ends.Given as goal

abbrev pub invariant-loop-l : goal.invariant-loop-l
invariant-loop-l l = l.rows.items ≡ map (usable_before (network l.topo) l.plan l.l) (device_numbers (network l.topo))
