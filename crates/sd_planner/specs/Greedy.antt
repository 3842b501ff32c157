-- The greedy plan: its rows, and the least waits.
use Rattle.std.specs.Prelude.{◌≡◌, ℕ, ◌+◌, ◌*◌, ◌≤◌}
use Rattle.sd_plan.specs.topo.Network.{Network, least_low, greatest_up}
use Rattle.sd_plan.specs.declared.Plan.{Plan}
use Rattle.sd_plan.specs.declared.Absent.{Absent}
use Rattle.sd_checker.specs.check_root.Timing.{silence}
use Rattle.sd_planner.specs.Placing.{backup_root_of}
use Rattle.sd_planner.specs.Serving.{greedy_rows}

-- x is the least wait whose counter surely takes this long
pub record IsLeastWait (net : Network) (long x : ℕ) : Type 0 where
  pub enough : long ≤ least_low net x
  pub least : (y : ℕ) → long ≤ least_low net y → x ≤ y

-- the plan is the greedy one from this root without what is absent
pub record IsGreedy (net : Network) (root : ℕ) (absent : Absent) (plan : Plan) : Type 0 where
  pub from_root : plan.root ≡ root
  pub to_backup_root : plan.backup_root ≡ backup_root_of net root absent
  pub leaves_out : plan.absent ≡ absent
  pub rows : plan.rows ≡ greedy_rows net root absent
  pub first : IsLeastWait net (2 * (silence net + net.params.tick)) plan.wait_first
  pub second : IsLeastWait net (2 * (silence net + net.params.tick)) plan.wait_second
  pub ordinary : IsLeastWait net (greatest_up net plan.wait_first + greatest_up net plan.wait_second + 6 * (silence net + net.params.tick)) plan.wait
