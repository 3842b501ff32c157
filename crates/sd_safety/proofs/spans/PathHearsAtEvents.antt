-- 13 at each event of each era: the silence is counted up to the event before, and the next one comes at most a tick gap later.
use Rattle.std.specs.Prelude.{◌≡◌, ℕ, ◌+◌, ◌-◌, ◌*◌, ◌<◌, ◌≤◌, Bool, true, false, not, max, List, [], ◌∷◌, refl, ◌⊎◌}
use Rattle.std.proofs.Common.{arith, subst, inl, inr}
use Rattle.std.proofs.lemmas.Bool.{and_parts, cases_lt, not-true, false_from_ne_true}
use Rattle.std.proofs.Math.Nat.{le-max_left, le-max_right}
use Rattle.sd_plan.specs.declared.topo.Thing.{Thing}
use Rattle.sd_plan.specs.declared.topo.Thing.TheVariants as thing
use Rattle.sd_plan.specs.topo.Network.{greatest_delay, greatest_up, least_low}
use Rattle.sd_plan.specs.Walks.{path}
use Rattle.sd_checker.specs.check_root.Timing.{round_gap}
use Rattle.sd_sched.specs.declared.Event.{Event}
use Rattle.sd_sched.specs.Events.{reference_of}
use Rattle.sd_history.specs.World.{Setting, fails, is_up, plan_numbered}
use Rattle.sd_history.specs.Steps.{Step, seen_of}
use Rattle.sd_history.specs.Chronicle.{chronicle, next_step}
use Rattle.sd_safety.specs.invariant.Bounds.{depth, delay, rounds_gap, tick_gap}
use Rattle.sd_safety.specs.invariant.Eras.{era, plan_now, all_started, beginning, is_among, touches, failed_now, heard_at, is_old, on_primary, path_hit, root_failed}
use Rattle.sd_safety.specs.invariant.Coming.{IsNextEvent, AtNext}
use Rattle.sd_safety.specs.invariant.Silences.{WholePathHears}
use Rattle.sd_safety.proofs.invariant.Sides.{not_both}
use Rattle.sd_safety.proofs.invariant.Timed.{least_below_greatest}
use Rattle.sd_safety.specs.messages.Moments.{whole, behind}
use Rattle.sd_safety.proofs.messages.Overlap.{IsApart, apart_by_rule}
use Rattle.sd_safety.proofs.waits.Waits.{Stands, old_stands}
use Rattle.sd_safety.proofs.waits.LookingBack.{Was}
use Rattle.sd_safety.proofs.waits.Standing.{clean, sound, heard_late}
use Rattle.sd_safety.proofs.silences.Phases.{fails_among, fewer}
use Rattle.sd_safety.proofs.silences.BeforeStart.{heard_after}
use Rattle.sd_safety.proofs.silences.Gaps.{next_event, always_sum, apart_low}
use Rattle.sd_safety.proofs.windows.Eras as eras
use Rattle.sd_safety.proofs.entering.Hears.{hears_soon}
use Rattle.sd_safety.specs.rounds.Spans.{IsSpan}
use Rattle.sd_safety.proofs.spans.SilenceStarts.{comes_before, heard_then, old_then, new_then, not_staged_root, was_primary, primary_within, idle_of}
use Rattle.sd_safety.proofs.spans.PathHears.{IsSpared, spared, path_silent}

-- what the steps before an event, which closed no window, have of the era
module _ (setting : Setting) (x : Event) (h : List Event) (open_ : (next_step setting (chronicle setting h) x).seen.closed ≡ false) where
  abbrev older : List Step
  older = chronicle setting h

  abbrev steps : List Step
  steps = chronicle setting (x ∷ h)

  abbrev s : Step
  s = next_step setting (chronicle setting h) x

  pub same_era : era (chronicle setting (x ∷ h)) ≡ era (chronicle setting h)
  same_era = eras.era_kept s older open_

  grows : era (chronicle setting (x ∷ h)) ≤ era (chronicle setting h)
  grows = let same = same_era in omega (arith, same)

  -- what did not fail by now had not failed then, and did not with the event
  pub more_then : (y : Thing) → is_among (failed_now (chronicle setting (x ∷ h))) y ≡ false → is_among (failed_now (chronicle setting h)) y ≡ false
  more_then y none = fewer y older steps (behind whole) grows none

  pub spares_now : (y : Thing) → is_among (failed_now (chronicle setting (x ∷ h))) y ≡ false → fails y x ≡ false
  spares_now y none = false_from_ne_true (fails y x) (λ is. not_both (is_among (failed_now steps) y) (fails_among s older y open_ is) none)

  pub kept_before : root_failed setting (chronicle setting (x ∷ h)) ≡ false → root_failed setting (chronicle setting h) ≡ false
  kept_before kept =
      more_then (thing.Device (plan_now setting older).root)
      (subst (λ n. is_among (failed_now steps) (thing.Device (plan_numbered setting n).root) ≡ false) same_era kept)

pub within : (r s a b : ℕ) → r ≤ s → r ≤ s + a + b
within r s a b le = omega (arith, le)

by_silence : (r g s a b : ℕ) → r - g ≤ a + b → g ≤ s → r ≤ s + a + b
by_silence r g s a b silent le = omega (arith, silent, le)

-- up to an event that closed no window
lately_open : (setting : Setting) (x : Event) (h : List Event) (e : Event) → IsNextEvent setting (x ∷ h) e → (s0 d : ℕ)
    → all_started setting (chronicle setting (x ∷ h)) ≤ s0 → root_failed setting (chronicle setting (x ∷ h)) ≡ false
    → is_old (chronicle setting (x ∷ h)) d ≡ true → path_hit setting (chronicle setting (x ∷ h)) d ≡ false → s0 < reference_of x
    → (next_step setting (chronicle setting h) x).seen.closed ≡ false
    → is_old (chronicle setting h) d ≡ true → on_primary (chronicle setting h) d ≡ true → heard_at (chronicle setting h) d ≤ s0
    → reference_of x ≤ s0 + rounds_gap setting.net + depth setting.net * delay setting.net
lately_open setting x [] e comes s0 d started kept old path_ late open_ old' on' heard' = cc
lately_open setting x (y ∷ hs) e comes s0 d started kept old path_ late open_ old' on' heard' =
    let steps : List Step = chronicle setting (x ∷ y ∷ hs) in
    let before_ : IsNextEvent setting (y ∷ hs) x = comes_before setting x (y ∷ hs) e comes in
    let span : IsSpan setting y hs x s0 =
    record { comes = before_; started = λ first. started; within = primary_within setting (y ∷ hs) x before_ d s0 old' on' heard' } in
    path_silent setting y hs x s0 span (kept_before setting x (y ∷ hs) open_ kept) (omega (arith, started, late)) (failed_now steps)
    (more_then setting x (y ∷ hs) open_) (spares_now setting x (y ∷ hs) open_) d old' on'
    (spared setting x (y ∷ hs) e comes d old).self
    (subst (λ n. touches (failed_now steps) (path setting.net (plan_numbered setting n) d) ≡ false) (same_era setting x (y ∷ hs) open_) path_) heard'

-- up to the event before
pub lately : (setting : Setting) (x : Event) (h : List Event) (e : Event) → IsNextEvent setting (x ∷ h) e → (s0 d : ℕ)
    → all_started setting (chronicle setting (x ∷ h)) ≤ s0 → root_failed setting (chronicle setting (x ∷ h)) ≡ false
    → is_old (chronicle setting (x ∷ h)) d ≡ true → on_primary (chronicle setting (x ∷ h)) d ≡ true → path_hit setting (chronicle setting (x ∷ h)) d ≡ false
    → heard_at (chronicle setting (x ∷ h)) d ≤ s0
    → reference_of x ≤ s0 + rounds_gap setting.net + depth setting.net * delay setting.net
lately setting x h e comes s0 d started kept old on path_ heard = go (cases_lt s0 (reference_of x))
  where
    by_closed : s0 < reference_of x → (c : Bool) → (next_step setting (chronicle setting h) x).seen.closed ≡ c
        → Was setting (chronicle setting h) (chronicle setting (x ∷ h)) d on_primary → heard_at (chronicle setting h) d ≤ s0
        → reference_of x ≤ s0 + rounds_gap setting.net + depth setting.net * delay setting.net
    by_closed late true closed w heard' =
        let new = new_then setting x h e comes d w.epoch closed old in
        by_silence (reference_of x) (heard_at (chronicle setting h) d) s0 (rounds_gap setting.net) (depth setting.net * delay setting.net)
        (hears_soon setting h x (comes_before setting x h e comes) d new (not_staged_root setting x h e comes d new (idle_of (chronicle setting h) d w.on)))
        heard'
    by_closed late false open_ w heard' =
        lately_open setting x h e comes s0 d started kept old path_ late open_ (old_then setting x h e comes d w.epoch open_ old) w.on heard'

    go : (s0 < reference_of x) ⊎ (reference_of x ≤ s0) → reference_of x ≤ s0 + rounds_gap setting.net + depth setting.net * delay setting.net
    go (inr le) = within (reference_of x) s0 (rounds_gap setting.net) (depth setting.net * delay setting.net) le
    go (inl late) =
        by_closed late (next_step setting (chronicle setting h) x).seen.closed refl (was_primary setting x h e comes d s0 late heard on)
        (heard_then setting x h e comes d s0 late heard)

after_receipt : (r l h s q a b : ℕ) → r ≤ l + q → l ≤ max h s + a + b → s < h → r - h ≤ a + b + q
after_receipt r l h s q a b gap by late = omega (arith, gap, by, late)

-- 13
pub whole_path_hears : (setting : Setting) → AtNext WholePathHears setting
whole_path_hears setting [] e comes d lives leads old primary path_ = cc
whole_path_hears setting (x ∷ h) e comes d lives leads old primary path_ =
    let steps : List Step = chronicle setting (x ∷ h) in
    let net = setting.net in
    let kept : root_failed setting steps ≡ false =
    not-true (root_failed setting steps) (and_parts (is_up (seen_of steps) (plan_now setting steps).root) (not (root_failed setting steps)) lives).1 in
    let own : IsSpared setting steps d = spared setting x h e comes d old in
    let s : Stands setting steps d = old_stands setting (x ∷ h) d old in
    let gap : reference_of e ≤ reference_of x + tick_gap net = next_event setting x h e comes d own.up own.member in
    let by : reference_of x ≤ max (heard_at steps d) (all_started setting steps) + rounds_gap net + depth net * delay net =
    lately setting x h e comes (max (heard_at steps d) (all_started setting steps)) d
    (le-max_right (heard_at steps d) (all_started setting steps)) kept old primary path_ (le-max_left (heard_at steps d) (all_started setting steps)) in
    let began : beginning (seen_of steps) ≤ heard_at steps d = heard_late setting x h e comes d s.past s.there in
    let rule : IsApart net = apart_by_rule net (plan_now setting steps) (sound setting x h e comes).guarded.timing in (
      always_sum (reference_of e) (reference_of x) (heard_at steps d) (beginning (seen_of steps)) (tick_gap net) (greatest_up net net.params.period)
          (round_gap net) (rounds_gap net) (depth net * delay net) (least_low net net.params.period)
          gap by began refl (least_below_greatest net net.params.period)
          (apart_low (2 * (net.params.depth + 1) * greatest_delay net) net.params.tick (least_low net net.params.period) rule),
      λ heard. after_receipt (reference_of e) (reference_of x) (heard_at steps d) (all_started setting steps) (tick_gap net) (rounds_gap net)
          (depth net * delay net) gap by (heard_after setting comes.fair d (x ∷ h) (clean setting x h e comes) heard),
    )
