-- 16's piece for a backup root that has moved: where the root failed, it heard at most (H + 1) * D after that.
use Rattle.std.specs.Prelude.{ℕ, ◌+◌, ◌*◌, ◌≤◌, List, IsTrue}
use Rattle.sd_history.specs.World.{Setting}
use Rattle.sd_history.specs.Steps.{Step}
use Rattle.sd_safety.specs.invariant.Bounds.{depth, delay}
use Rattle.sd_safety.specs.invariant.Eras.{plan_now, is_old, on_backup, root_failed, heard_at}
use Rattle.sd_safety.specs.invariant.Silences.{root_failed_at}

-- where the root failed, a backup root that has moved heard at most (H + 1) * D after that
abbrev pub MovedHearsNoMore : Setting → List Step → ℕ → Type 0
MovedHearsNoMore setting steps reference =
    IsTrue (root_failed setting steps) → IsTrue (is_old steps (plan_now setting steps).backup_root)
    → IsTrue (on_backup steps (plan_now setting steps).backup_root)
    → heard_at steps (plan_now setting steps).backup_root ≤ root_failed_at setting steps + (depth setting.net + 1) * delay setting.net
