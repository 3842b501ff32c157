-- The rows of the greedy plan are one for each device.
use Rattle.std.proofs.Common.{◌≡◌, ℕ, List, length, Option, ap, ◌∙◌}
use Rattle.sd_plan.specs.topo.Network.{Network}
use Rattle.sd_plan.specs.declared.Absent.{Absent}
use Rattle.sd_plan.specs.declared.PlanRow.{PlanRow}
use Rattle.sd_plan.proofs.Numbered.{length-numbered}
use Rattle.sd_planner.specs.Serving.{greedy_row, greedy_rows}

pub one_each : (net : Network) (root : ℕ) (absent : Absent) (rows : List (Option PlanRow)) → rows ≡ greedy_rows net root absent
    → length rows ≡ length net.devices
unfolding greedy_rows
one_each net root absent rows are = ap length are ∙ length-numbered (greedy_row net root absent) (length net.devices)
