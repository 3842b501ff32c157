-- What 14 rests on beside 13 and 16, in an era without a mend so far: what the backup root hears after its path broke, and that what it hears or sends comes to
-- the devices behind it.
use Rattle.std.specs.Prelude.{◌≡◌, ℕ, ◌+◌, ◌*◌, ◌<◌, ◌≤◌, Bool, true, false, not, List, max, is_some, IsTrue, ◌⊎◌}
use Rattle.std.specs.List.{list_any}
use Rattle.sd_num.specs.Lists.{map_or, leading}
use Rattle.sd_plan.specs.Walks.{path}
use Rattle.sd_checker.specs.check_root.Timing.{round_gap}
use Rattle.sd_device.specs.Calls.{CallDone}
use Rattle.sd_device.specs.Words.{is_takeover}
use Rattle.sd_history.specs.Things.{mended}
use Rattle.sd_history.specs.World.{Setting}
use Rattle.sd_history.specs.Steps.{Step, seen_of, acts_in}
use Rattle.sd_safety.specs.invariant.Bounds.{depth, delay, losses, rounds_gap, second_up, tick_gap, wait_low, first_up}
use Rattle.sd_safety.specs.invariant.Eras.{plan_now, is_old, is_new, is_behind, on_primary, on_backup, moved, hit, path_hit, root_lives, heard_at, moved_at, latest_such, silent_for, late, first_failure, root_failed}
use Rattle.sd_safety.specs.invariant.Silences.{root_leads, root_failed_at}

-- something was mended in the era
abbrev pub mended_now : List Step → Bool
mended_now steps = list_any (λ s. is_some (mended s.event)) (leading (λ s. not s.closed) (seen_of steps))

-- the reference at which the path of the backup root broke, or where that is later the one by which all have started (g)
abbrev pub path_failed_at : Setting → List Step → ℕ
path_failed_at setting steps =
    late setting steps
    (map_or (first_failure (path setting.net (plan_now setting steps) (plan_now setting steps).backup_root) (seen_of steps)) 0 (λ reference. reference))

-- the call was a takeover
abbrev pub takes_over : CallDone → Bool
takes_over x = is_takeover x.transition

-- the reference of the latest takeover, or of the making where none came since
abbrev pub took_over_at : List Step → ℕ → ℕ
took_over_at steps d = latest_such takes_over steps d

-- 14 (i) without a mend: on its primary the backup root heard at most H * D after its path broke
abbrev pub PathHearsNoMore : Setting → List Step → ℕ → Type 0
PathHearsNoMore setting steps reference =
    mended_now steps ≡ false → IsTrue (path_hit setting steps (plan_now setting steps).backup_root)
    → IsTrue (is_old steps (plan_now setting steps).backup_root) → IsTrue (on_primary steps (plan_now setting steps).backup_root)
    → heard_at steps (plan_now setting steps).backup_root ≤ path_failed_at setting steps + depth setting.net * delay setting.net

-- a device behind the backup root, old, on its primary and not hit
pub record StandsBehind (setting : Setting) (steps : List Step) (d : ℕ) : Type 0 where
  pub old : is_old steps d ≡ true
  pub behind : is_behind setting.net (plan_now setting steps) d ≡ true
  pub primary : on_primary steps d ≡ true
  pub missed : hit setting steps d ≡ false

-- 14 (ii): while the root lives and the backup root is on its backup, such a device hears at most A + 2 * H * D + 2 * Q after it heard last, or the backup root
-- moved
-- (Q, since an event that fails something of the way may cut off the last round, as in 13; and Q, since in the first era all start within Q)
abbrev pub FallbackFeeds : Setting → List Step → ℕ → Type 0
FallbackFeeds setting steps reference =
    (d : ℕ) → StandsBehind setting steps d → IsTrue (root_lives setting steps) → IsTrue (root_leads setting steps)
    → IsTrue (is_old steps (plan_now setting steps).backup_root) → IsTrue (on_backup steps (plan_now setting steps).backup_root)
    → reference ≤ max (heard_at steps d)
    (moved_at steps (plan_now setting steps).backup_root) + (rounds_gap setting.net + 2 * depth setting.net * delay setting.net) + 2 * tick_gap setting.net

-- 14 (ii): while the old backup root acts, such a device hears at most K * P + H * D + Q after the takeover, and A + H * D + Q after it heard last
abbrev pub TakeoverFeeds : Setting → List Step → ℕ → Type 0
TakeoverFeeds setting steps reference =
    (d : ℕ) → StandsBehind setting steps d → IsTrue (is_old steps (plan_now setting steps).backup_root)
    → IsTrue (acts_in steps (plan_now setting steps).backup_root)
    → reference
    ≤ max (took_over_at steps (plan_now setting steps).backup_root + (losses setting.net * round_gap setting.net + depth setting.net * delay setting.net))
    (heard_at steps d + (rounds_gap setting.net + depth setting.net * delay setting.net))
    + tick_gap setting.net

-- an old backup root that acts has moved, and the takeover came at most a second wait and a tick after the move, or after it can have heard the root last
abbrev pub TookOverSoon : Setting → List Step → ℕ → Type 0
TookOverSoon setting steps reference =
    IsTrue (is_old steps (plan_now setting steps).backup_root) → IsTrue (acts_in steps (plan_now setting steps).backup_root)
    → IsTrue (moved steps (plan_now setting steps).backup_root)
    × (took_over_at steps (plan_now setting steps).backup_root
    ≤ max (moved_at steps (plan_now setting steps).backup_root) (root_failed_at setting steps + (depth setting.net + 1) * delay setting.net)
    + second_up setting.net (plan_now setting steps) + tick_gap setting.net)

-- 14 (iii): on its primary in an era with a mend the backup root heard a new round, which comes to the devices behind it too, or at most a straggler: heard at
-- most H * D after its path broke, or a first wait and a tick later and then not before the root failed, if it did
abbrev pub MendedHears : Setting → List Step → ℕ → Type 0
MendedHears setting steps reference =
    mended_now steps ≡ true → IsTrue (path_hit setting steps (plan_now setting steps).backup_root)
    → IsTrue (is_old steps (plan_now setting steps).backup_root) → IsTrue (on_primary steps (plan_now setting steps).backup_root)
    → ((d : ℕ) → StandsBehind setting steps d
    → reference
    ≤ max (heard_at steps d)
    (path_failed_at setting steps + depth setting.net * delay setting.net + 2 * (first_up setting.net (plan_now setting steps) + tick_gap setting.net))
    + (rounds_gap setting.net + 2 * depth setting.net * delay setting.net) + tick_gap setting.net)
    ⊎ (heard_at steps (plan_now setting steps).backup_root ≤ path_failed_at setting steps + depth setting.net * delay setting.net + first_up setting.net
    (plan_now setting steps) + tick_gap setting.net)

-- 14 (iii): in such an era it moved without a straggler, or after one, which came after the root failed, if it did
abbrev pub MendedMoves : Setting → List Step → ℕ → Type 0
MendedMoves setting steps reference =
    mended_now steps ≡ true → IsTrue (path_hit setting steps (plan_now setting steps).backup_root)
    → IsTrue (is_old steps (plan_now setting steps).backup_root) → IsTrue (moved steps (plan_now setting steps).backup_root)
    → (moved_at steps (plan_now setting steps).backup_root
    ≤ path_failed_at setting steps + depth setting.net * delay setting.net + first_up setting.net (plan_now setting steps) + tick_gap setting.net)
    ⊎ ((moved_at steps (plan_now setting steps).backup_root
    ≤ path_failed_at setting steps + depth setting.net * delay setting.net + 2 * (first_up setting.net (plan_now setting steps) + tick_gap setting.net))
    × (IsTrue (root_failed setting steps)
    → root_failed_at setting steps + (depth setting.net + 1) * delay setting.net ≤ moved_at steps (plan_now setting steps).backup_root))

-- 14 in an era without a mend so far, while the backup root is old
abbrev pub BehindWaitsUnmended : Setting → List Step → ℕ → Type 0
BehindWaitsUnmended setting steps reference =
    (d : ℕ) → StandsBehind setting steps d → mended_now steps ≡ false → IsTrue (is_old steps (plan_now setting steps).backup_root)
    → silent_for steps d reference < wait_low setting.net (plan_now setting steps)

-- 14 in an era with a mend, while the backup root is old: the straggler is here
abbrev pub BehindWaitsMended : Setting → List Step → ℕ → Type 0
BehindWaitsMended setting steps reference =
    (d : ℕ) → StandsBehind setting steps d → mended_now steps ≡ true → IsTrue (is_old steps (plan_now setting steps).backup_root)
    → silent_for steps d reference < wait_low setting.net (plan_now setting steps)

-- 14 where the backup root is new: it has committed, or entered after the root's commit, and the device has not entered yet
abbrev pub BehindWaitsCommitted : Setting → List Step → ℕ → Type 0
BehindWaitsCommitted setting steps reference =
    (d : ℕ) → StandsBehind setting steps d → IsTrue (is_new steps (plan_now setting steps).backup_root)
    → silent_for steps d reference < wait_low setting.net (plan_now setting steps)
