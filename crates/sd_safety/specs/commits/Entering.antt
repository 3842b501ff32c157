-- What is said while the backup root is old, with the time to spare that a device behind it takes to enter after a commit, A + H * D.
use Rattle.std.specs.Prelude.{◌≡◌, ℕ, ◌+◌, ◌*◌, ◌<◌, false, List, IsTrue}
use Rattle.sd_history.specs.World.{Setting}
use Rattle.sd_history.specs.Steps.{Step, acts_in}
use Rattle.sd_safety.specs.invariant.Bounds.{depth, delay, rounds_gap, wait_low}
use Rattle.sd_safety.specs.invariant.Eras.{plan_now, is_old, root_failed, heard_at}
use Rattle.sd_safety.specs.behind.Feeding.{StandsBehind, took_over_at}

-- while the root lives, such a device is silent for less than its wait, and would be so A + H * D later too
abbrev pub BehindWaitsLonger : Setting → List Step → ℕ → Type 0
BehindWaitsLonger setting steps reference =
    (d : ℕ) → StandsBehind setting steps d → IsTrue (is_old steps (plan_now setting steps).backup_root) → root_failed setting steps ≡ false
    → reference + (rounds_gap setting.net + depth setting.net * delay setting.net) < heard_at steps d + wait_low setting.net (plan_now setting steps)

-- while the backup root acts, it took over so early that such a device is silent for less than its wait until A + H * D after that
abbrev pub TookOverEarly : Setting → List Step → ℕ → Type 0
TookOverEarly setting steps reference =
    (d : ℕ) → StandsBehind setting steps d → IsTrue (is_old steps (plan_now setting steps).backup_root)
    → IsTrue (acts_in steps (plan_now setting steps).backup_root)
    → took_over_at steps (plan_now setting steps).backup_root + (rounds_gap setting.net + depth setting.net * delay setting.net) < heard_at steps d + wait_low
    setting.net (plan_now setting steps)
