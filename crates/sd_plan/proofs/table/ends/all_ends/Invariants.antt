use Rattle.std.proofs.Common.{◌≡◌, map}
use Rattle.sd_plan.specs.topo.Network.{device_numbers}
use Rattle.sd_plan.specs.topo.Topologies.{network}
use Rattle.sd_plan.specs.Tables.{ends_before}
use Rattle.sd_plan.proofs.table.ends.all_ends.Given as goal

abbrev pub invariant-loop-l : goal.invariant-loop-l
invariant-loop-l l = l.rows.items ≡ map (ends_before (network l.topo) l.plan l.l) (device_numbers (network l.topo))
