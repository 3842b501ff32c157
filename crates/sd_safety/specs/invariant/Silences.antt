-- How long devices stay silent, and how long the backup root rests: statements of the state before an event and of the event's reference, each
-- to be shown from the invariant after the events before.
use Rattle.std.specs.Prelude.{◌≡◌, ℕ, ◌+◌, ◌*◌, ◌<◌, ◌≤◌, Bool, false, ◌&&◌, ◌||◌, not, List, [], ◌∷◌, nat_eq, nat_lt, IsTrue}
use Rattle.sd_num.specs.Lists.{map_or}
use Rattle.sd_plan.specs.declared.topo.Thing.TheVariants as thing
use Rattle.sd_checker.specs.check_root.Timing.{round_gap}
use Rattle.sd_history.specs.World.{Setting, has_commit}
use Rattle.sd_history.specs.Steps.{Step, seen_of, acts_in}
use Rattle.sd_safety.specs.invariant.Bounds.{depth, delay, tick_gap, rounds_gap, first_up, second_up, wait_low}
use Rattle.sd_safety.specs.invariant.Eras.{plan_now, is_old, is_new, on_primary, on_backup, is_ordinary, is_behind, hit, hit_otherwise, path_hit, root_failed, root_lives, heard_since_made, silent_for, rests_for, late, first_failure, will_belong}
use Rattle.sd_safety.specs.invariant.Clauses.{◌⟹◌, commit_at, staged_root}
use Rattle.sd_safety.specs.invariant.Coming.{AtNext}

-- no commit came in the open window, or the root itself committed
abbrev pub root_leads : Setting → List Step → Bool
root_leads setting steps = not (has_commit (seen_of steps)) || nat_eq (staged_root setting steps) (plan_now setting steps).root

-- 13: while the root lives, an old device on its primary with a whole path is silent for at most A + P + H * D, and after a receipt A + H * D + Q
-- (Q, since an event that fails something may cut off the last round that would end the silence)
abbrev pub WholePathHears : Setting → List Step → ℕ → Type 0
WholePathHears setting steps reference =
    (d : ℕ) → IsTrue (root_lives setting steps) → IsTrue (root_leads setting steps) → IsTrue (is_old steps d) → IsTrue (on_primary steps d)
    → path_hit setting steps d ≡ false
    → (silent_for steps d reference ≤ rounds_gap setting.net + round_gap setting.net + depth setting.net * delay setting.net)
    × (IsTrue (heard_since_made steps d) → silent_for steps d reference ≤ rounds_gap setting.net + depth setting.net * delay setting.net + tick_gap setting.net)

-- 14: an old device behind the backup root, on its primary and not hit, is silent for less than its wait
abbrev pub BehindWaits : Setting → List Step → ℕ → Type 0
BehindWaits setting steps reference =
    (d : ℕ) → IsTrue (is_old steps d) → IsTrue (is_behind setting.net (plan_now setting steps) d) → IsTrue (on_primary steps d) → hit setting steps d ≡ false
    → silent_for steps d reference < wait_low setting.net (plan_now setting steps)

-- 15: while the root lives, an old backup root on its backup rests for at most A + P + (H + 1) * D
abbrev pub FallbackHears : Setting → List Step → ℕ → Type 0
FallbackHears setting steps reference =
    IsTrue (root_lives setting steps) → IsTrue (root_leads setting steps)
    → IsTrue (is_old steps (plan_now setting steps).backup_root) → IsTrue (on_backup steps (plan_now setting steps).backup_root)
    → rests_for steps (plan_now setting steps).backup_root reference ≤ rounds_gap setting.net + round_gap setting.net + (depth setting.net + 1) * delay
    setting.net

-- the reference of the root's failure, or where that is later the one by which all have started
abbrev pub root_failed_at : Setting → List Step → ℕ
root_failed_at setting steps =
    late setting steps (map_or (first_failure (thing.Device (plan_now setting steps).root ∷ []) (seen_of steps)) 0 (λ reference. reference))

-- 16: where the root failed, an old backup root acts soon
abbrev pub TakesOverSoon : Setting → List Step → ℕ → Type 0
TakesOverSoon setting steps reference =
    IsTrue (root_failed setting steps) → IsTrue (is_old steps (plan_now setting steps).backup_root) → acts_in steps (plan_now setting steps).backup_root ≡ false
    → reference
    ≤ root_failed_at setting steps + (depth setting.net + 1) * delay setting.net
    + first_up setting.net (plan_now setting steps) + second_up setting.net (plan_now setting steps) + 2 * tick_gap setting.net

-- 17: while the backup root does not act, an old ordinary device on its primary that is not behind it, nor hit otherwise than by the root, is
-- silent for less than its wait
abbrev pub BesideWaits : Setting → List Step → ℕ → Type 0
BesideWaits setting steps reference =
    (d : ℕ) → IsTrue (is_old steps d) → IsTrue (is_ordinary (plan_now setting steps) d) → IsTrue (on_primary steps d)
    → is_behind setting.net (plan_now setting steps) d ≡ false → hit_otherwise setting steps d ≡ false
    → acts_in steps (plan_now setting steps).backup_root ≡ false
    → silent_for steps d reference < wait_low setting.net (plan_now setting steps)

-- 18: a new device other than the staged root is silent for at most A + H * D
abbrev pub NewHears : Setting → List Step → ℕ → Type 0
NewHears setting steps reference =
    (d : ℕ) → IsTrue (is_new steps d) → nat_eq d (staged_root setting steps) ≡ false
    → silent_for steps d reference ≤ rounds_gap setting.net + depth setting.net * delay setting.net

-- a member of the staged plan is new at an event later than A + H * D after the commit, with the state before it
abbrev pub enters_soon : Setting → List Step → ℕ → ℕ → Bool
enters_soon setting steps reference d =
    has_commit (seen_of steps) && will_belong setting steps d
    && nat_lt (commit_at steps + rounds_gap setting.net + depth setting.net * delay setting.net) reference
    ⟹ is_new steps d

-- 18, of members: each of them is so. It stands for C9 b, which time alone could break, so every event asks for it.
abbrev pub EntersSoon : Setting → List Step → ℕ → Type 0
EntersSoon setting steps reference = (d : ℕ) → IsTrue (enters_soon setting steps reference d)

-- 13 to 18 as a whole, at each event that comes
pub record AreSilent (setting : Setting) : Type 0 where
  pub whole : AtNext WholePathHears setting
  pub behind : AtNext BehindWaits setting
  pub fallback : AtNext FallbackHears setting
  pub takeover : AtNext TakesOverSoon setting
  pub beside : AtNext BesideWaits setting
  pub entered : AtNext NewHears setting
