-- What is said of the backup root before an event, beside the silences: that it was sealed before its first wait was over, and that it heard nothing long
-- after the root failed.
use Rattle.std.specs.Prelude.{◌≡◌, ℕ, ◌+◌, ◌*◌, ◌≤◌, false, List, Some, IsTrue}
use Rattle.sd_history.specs.World.{Setting}
use Rattle.sd_history.specs.Steps.{Step, acts_in}
use Rattle.sd_safety.specs.invariant.Bounds.{depth, delay, first_up}
use Rattle.sd_safety.specs.invariant.Eras.{plan_now, is_old, on_primary, root_failed, heard_at}
use Rattle.sd_safety.specs.invariant.Silences.{root_failed_at}
use Rattle.sd_safety.specs.timers.Times.{sealed_in}

-- an old backup root on its primary was sealed before its first wait was over
abbrev pub SealsSoon : Setting → List Step → ℕ → Type 0
SealsSoon setting steps reference =
    IsTrue (is_old steps (plan_now setting steps).backup_root) → IsTrue (on_primary steps (plan_now setting steps).backup_root)
    → (q : ℕ) × (sealed_in steps (plan_now setting steps).backup_root ≡ Some q)
    × (q ≤ heard_at steps (plan_now setting steps).backup_root + first_up setting.net (plan_now setting steps))

-- where the root failed, an old backup root that does not act heard at most (H + 1) * D after that
abbrev pub HearsNoMore : Setting → List Step → ℕ → Type 0
HearsNoMore setting steps reference =
    IsTrue (root_failed setting steps) → IsTrue (is_old steps (plan_now setting steps).backup_root) → acts_in steps (plan_now setting steps).backup_root ≡ false
    → heard_at steps (plan_now setting steps).backup_root ≤ root_failed_at setting steps + (depth setting.net + 1) * delay setting.net
