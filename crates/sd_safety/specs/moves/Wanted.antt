-- What is shown here of seals, and of silences at most. Stated of the state before an event, and of its reference.
use Rattle.std.specs.Prelude.{◌≡◌, ℕ, ◌+◌, ◌≤◌, List, Some, IsTrue}
use Rattle.sd_plan.specs.Plans.{has_backup}
use Rattle.sd_checker.specs.check_root.Timing.{silence}
use Rattle.sd_history.specs.World.{Setting}
use Rattle.sd_history.specs.Steps.{Step}
use Rattle.sd_safety.specs.timers.Times.{sealed_in}
use Rattle.sd_safety.specs.invariant.Bounds.{tick_gap, first_up, wait_up}
use Rattle.sd_safety.specs.invariant.Eras.{plan_now, is_old, on_primary, is_ordinary, heard_at, silent_for}
use Rattle.sd_safety.specs.invariant.Clauses.{backup_root_stays}

-- the seal of a device came by this reference
pub record IsSealedBy (steps : List Step) (d limit : ℕ) : Type 0 where
  pub seal : ℕ
  pub sealed : sealed_in steps d ≡ Some seal
  pub by : seal ≤ limit

-- an old device on its primary was sealed at most W after it last heard
abbrev pub SealedInTime : Setting → List Step → ℕ → Type 0
SealedInTime setting steps reference = (d : ℕ) → IsTrue (is_old steps d) → IsTrue (on_primary steps d)
    → IsSealedBy steps d (heard_at steps d + silence setting.net)

-- an old backup root on its primary has been silent for at most its first wait and a tick gap
abbrev pub BackupRootEnds : Setting → List Step → ℕ → Type 0
BackupRootEnds setting steps reference =
    IsTrue (backup_root_stays setting steps)
    → silent_for steps (plan_now setting steps).backup_root reference ≤ first_up setting.net (plan_now setting steps) + tick_gap setting.net

-- an old ordinary device with a backup, on its primary, for at most its wait and one
abbrev pub OrdinaryEnds : Setting → List Step → ℕ → Type 0
OrdinaryEnds setting steps reference =
    (d : ℕ) → IsTrue (is_old steps d) → IsTrue (is_ordinary (plan_now setting steps) d) → IsTrue (has_backup (plan_now setting steps) d)
    → IsTrue (on_primary steps d)
    → silent_for steps d reference ≤ wait_up setting.net (plan_now setting steps) + tick_gap setting.net
