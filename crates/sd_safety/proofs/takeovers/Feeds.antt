-- 14 (ii) while the old backup root acts, at each event: counted up to the event before, which fails nothing of the way that is not failed now; the next one
-- comes at most a tick gap later.
use Rattle.std.specs.Prelude.{◌≡◌, ℕ, ◌+◌, ◌*◌, ◌<◌, ◌≤◌, Bool, true, false, max, List, [], ◌∷◌, refl, ◌⊎◌}
use Rattle.std.proofs.Common.{arith, ap, sym, subst, inl, inr}
use Rattle.std.proofs.lemmas.Bool.{cases_lt}
use Rattle.sd_plan.specs.declared.topo.Thing.{Thing}
use Rattle.sd_plan.specs.declared.topo.Thing.TheVariants as thing
use Rattle.sd_plan.specs.Walks.{epath}
use Rattle.sd_checker.specs.check_root.Timing.{round_gap}
use Rattle.sd_sched.specs.declared.Event.{Event}
use Rattle.sd_sched.specs.Events.{reference_of}
use Rattle.sd_history.specs.World.{Setting, makes, fails, plan_numbered}
use Rattle.sd_history.specs.Steps.{Step, acts_in}
use Rattle.sd_history.specs.Chronicle.{chronicle, next_step}
use Rattle.sd_safety.specs.invariant.Bounds.{depth, delay, losses, rounds_gap, tick_gap}
use Rattle.sd_safety.specs.invariant.Eras.{era, plan_now, is_among, touches, failed_now, does, heard_at, is_old, is_behind, on_primary}
use Rattle.sd_safety.specs.invariant.Coming.{IsNextEvent, AtNext}
use Rattle.sd_safety.specs.messages.Moments.{whole, behind, IsBefore}
use Rattle.sd_safety.proofs.waits.LookingBack.{Was}
use Rattle.sd_safety.proofs.silences.Gaps.{next_event}
use Rattle.sd_safety.proofs.silences.SoundWays.{top_of}
use Rattle.sd_safety.specs.behind.Feeding.{takes_over, took_over_at, StandsBehind, TakeoverFeeds}
use Rattle.sd_safety.proofs.spans.SilenceStarts.{kept_by, comes_before, heard_then, old_then, was_primary}
use Rattle.sd_safety.proofs.spans.PathHearsAtEvents.{same_era, more_then, spares_now}
use Rattle.sd_safety.proofs.spans.PathHears.{IsSpared, spared}
use Rattle.sd_safety.proofs.feeds.Since.{none_closed}
use Rattle.sd_safety.proofs.takeovers.Since.{StoodSo, has_moved_on}
use Rattle.sd_safety.proofs.takeovers.Places.{took, stood, acted_then, after}
use Rattle.sd_safety.proofs.takeovers.Heard.{heard_after}
use Rattle.sd_safety.proofs.takeovers.Rounds.{comes_by}

-- by when the device has its next event, from the reference of the takeover and of what it heard last
abbrev by_then : Setting → ℕ → ℕ → ℕ
by_then setting taken heard =
    max (taken + losses setting.net * round_gap setting.net + depth setting.net * delay setting.net)
    (heard + rounds_gap setting.net + depth setting.net * delay setting.net)

-- earlier references bound it the more
sooner : (r t t' u u' k a m : ℕ) → r ≤ max (t' + k + m) (u' + a + m) → t' ≤ t → u' ≤ u → r ≤ max (t + k + m) (u + a + m)
sooner r t t' u u' k a m by one two = omega (arith, by, one, two)

within_first : (r t u k a m : ℕ) → r ≤ t → r ≤ max (t + k + m) (u + a + m)
within_first r t u k a m le = omega (arith, le)

within_second : (r t u k a m : ℕ) → r ≤ u → r ≤ max (t + k + m) (u + a + m)
within_second r t u k a m le = omega (arith, le)

-- of an event that comes while the backup root acts, and fails none of some things
at_event : (setting : Setting) (y : Event) (hs : List Event) (x : Event) (comes : IsNextEvent setting (y ∷ hs) x) (b : ℕ)
    → b ≡ (plan_now setting (chronicle setting (y ∷ hs))).backup_root → is_old (chronicle setting (y ∷ hs)) b ≡ true
    → acts_in (chronicle setting (y ∷ hs)) b ≡ true → (failed : List Thing)
    → ((z : Thing) → is_among failed z ≡ false → is_among (failed_now (chronicle setting (y ∷ hs))) z ≡ false)
    → ((z : Thing) → is_among failed z ≡ false → fails z x ≡ false)
    → (d : ℕ) → is_behind setting.net (plan_now setting (chronicle setting (y ∷ hs))) d ≡ true → is_old (chronicle setting (y ∷ hs)) d ≡ true
    → is_among failed (thing.Device d) ≡ false
    → touches failed (epath setting.net (plan_now setting (chronicle setting (y ∷ hs))) d) ≡ false
    → reference_of x ≤ by_then setting (took_over_at (chronicle setting (y ∷ hs)) b) (heard_at (chronicle setting (y ∷ hs)) d)
at_event setting y hs x comes b is old acts failed more spares d behind_ old_d self missed =
    subst (λ z. reference_of x ≤ by_then setting (took_over_at (chronicle setting (y ∷ hs)) z) (heard_at (chronicle setting (y ∷ hs)) d)) (sym is)
    (of_root (subst (λ z. is_old (chronicle setting (y ∷ hs)) z ≡ true) is old) (subst (λ z. acts_in (chronicle setting (y ∷ hs)) z ≡ true) is acts))
  where
    of_root : is_old (chronicle setting (y ∷ hs)) (plan_now setting (chronicle setting (y ∷ hs))).backup_root ≡ true
        → acts_in (chronicle setting (y ∷ hs)) (plan_now setting (chronicle setting (y ∷ hs))).backup_root ≡ true
        → reference_of x ≤ by_then setting (took_over_at (chronicle setting (y ∷ hs)) (plan_now setting (chronicle setting (y ∷ hs))).backup_root)
        (heard_at (chronicle setting (y ∷ hs)) d)
    of_root old' acts' =
        subst (λ t. reference_of x ≤ by_then setting t (heard_at (chronicle setting (y ∷ hs)) d)) (sym (took setting y hs x comes old' acts').at)
        (comes_by setting y hs x comes old' acts' d (heard_after setting y hs x comes old' acts' failed more spares d behind_ old_d self missed))

-- up to an event that closed no window
open_before : (setting : Setting) (x : Event) (h : List Event) (e : Event) → IsNextEvent setting (x ∷ h) e
    → (next_step setting (chronicle setting h) x).seen.closed ≡ false → (b d : ℕ) → b ≡ (plan_now setting (chronicle setting h)).backup_root
    → is_old (chronicle setting h) b ≡ true
    → acts_in (chronicle setting h) b ≡ true → is_behind setting.net (plan_now setting (chronicle setting h)) d ≡ true → is_old (chronicle setting h) d ≡ true
    → is_among (failed_now (chronicle setting (x ∷ h))) (thing.Device d) ≡ false
    → touches (failed_now (chronicle setting (x ∷ h))) (epath setting.net (plan_now setting (chronicle setting h)) d) ≡ false
    → reference_of x ≤ by_then setting (took_over_at (chronicle setting h) b) (heard_at (chronicle setting h) d)
open_before setting x [] e comes open_ b d is old acts behind_ old_d self missed = cc
open_before setting x (y ∷ hs) e comes open_ b d is old acts behind_ old_d self missed =
    at_event setting y hs x (comes_before setting x (y ∷ hs) e comes) b is old acts (failed_now (chronicle setting (x ∷ y ∷ hs)))
    (more_then setting x (y ∷ hs) open_) (spares_now setting x (y ∷ hs) open_) d behind_ old_d self missed

module _ (setting : Setting) (x : Event) (h : List Event) (e : Event) (comes : IsNextEvent setting (x ∷ h) e)
    (old : is_old (chronicle setting (x ∷ h)) (plan_now setting (chronicle setting (x ∷ h))).backup_root ≡ true)
    (acts : acts_in (chronicle setting (x ∷ h)) (plan_now setting (chronicle setting (x ∷ h))).backup_root ≡ true) (d : ℕ)
    (st : StandsBehind setting (chronicle setting (x ∷ h)) d) where
  abbrev steps : List Step
  steps = chronicle setting (x ∷ h)

  abbrev b : ℕ
  b = (plan_now setting (chronicle setting (x ∷ h))).backup_root

  abbrev taken : ℕ
  taken = took_over_at (chronicle setting (x ∷ h)) b

  abbrev heard : ℕ
  heard = heard_at (chronicle setting (x ∷ h)) d

  abbrev Soon : Type 0
  Soon = reference_of x ≤ by_then setting (took_over_at (chronicle setting (x ∷ h)) b) (heard_at (chronicle setting (x ∷ h)) d)

  least : (n : ℕ) → n ≤ n
  least n = omega arith

  -- the event before comes after the takeover
  comes_after : taken < reference_of x → IsBefore (took setting x h e comes old acts).moment (top_of setting h x)
  comes_after late =
      after setting x h e comes old acts (top_of setting h x) (behind whole) (subst (λ t. t < reference_of x) (took setting x h e comes old acts).at late)

  by_closed : taken < reference_of x → heard < reference_of x → (c : Bool) → (next_step setting (chronicle setting h) x).seen.closed ≡ c → Soon
  by_closed late silent true closed = absurd (none_closed setting x h e comes (has_moved_on setting (x ∷ h) e comes b refl old acts) closed)
  by_closed late silent false open_ =
      let same : era (chronicle setting (x ∷ h)) ≡ era (chronicle setting h) = same_era setting x h open_ in
      let t : IsBefore (took setting x h e comes old acts).moment (top_of setting h x) = comes_after late in
      let told : StoodSo steps (top_of setting h x) b = stood setting x h e comes old acts (top_of setting h x) (behind whole) (behind t) in
      let was_d : Was setting (chronicle setting h) (chronicle setting (x ∷ h)) d on_primary =
      was_primary setting x h e comes d heard silent (least heard) st.primary in
      sooner (reference_of x) taken (took_over_at (chronicle setting h) b) heard (heard_at (chronicle setting h) d) (losses setting.net * round_gap setting.net)
      (rounds_gap setting.net) (depth setting.net * delay setting.net)
      (open_before setting x h e comes open_ b d (ap (λ n. (plan_numbered setting n).backup_root) same) told.1
      (acted_then setting x h e comes old acts (top_of setting h x) (behind whole) t)
      (subst (λ n. is_behind setting.net (plan_numbered setting n) d ≡ true) same st.behind) (old_then setting x h e comes d was_d.epoch open_ st.old)
      (spared setting x h e comes d st.old).self
      (subst (λ n. touches (failed_now steps) (epath setting.net (plan_numbered setting n) d) ≡ false) same st.missed))
      (kept_by taken (reference_of x) (makes b x) (does takes_over (chronicle setting h) (next_step setting (chronicle setting h) x) b)
      (took_over_at (chronicle setting h) b) late (least taken))
      (heard_then setting x h e comes d heard silent (least heard))

  -- up to the event before
  lately : Soon
  lately = by (cases_lt taken (reference_of x)) (cases_lt heard (reference_of x))
    where
      by : (taken < reference_of x) ⊎ (reference_of x ≤ taken) → (heard < reference_of x) ⊎ (reference_of x ≤ heard) → Soon
      by (inl late) (inl silent) = by_closed late silent (next_step setting (chronicle setting h) x).seen.closed refl
      by (inl late) (inr le) =
          within_second (reference_of x) taken heard (losses setting.net * round_gap setting.net) (rounds_gap setting.net)
          (depth setting.net * delay setting.net) le
      by (inr le) any =
          within_first (reference_of x) taken heard (losses setting.net * round_gap setting.net) (rounds_gap setting.net)
          (depth setting.net * delay setting.net) le

sum : (r l t u k a m q : ℕ) → r ≤ l + q → l ≤ max (t + k + m) (u + a + m) → r ≤ max (t + (k + m)) (u + (a + m)) + q
sum r l t u k a m q gap by = omega (arith, gap, by)

-- 14 (ii), while the backup root acts
pub takeover_feeds : (setting : Setting) → AtNext TakeoverFeeds setting
takeover_feeds setting [] e comes d st old acts = cc
takeover_feeds setting (x ∷ h) e comes d st old acts =
    let steps : List Step = chronicle setting (x ∷ h) in
    let net = setting.net in
    let own : IsSpared setting steps d = spared setting x h e comes d st.old in
    let gap : reference_of e ≤ reference_of x + tick_gap net = next_event setting x h e comes d own.up own.member in
    sum (reference_of e) (reference_of x) (took_over_at steps (plan_now setting steps).backup_root) (heard_at steps d) (losses net * round_gap net)
    (rounds_gap net) (depth net * delay net) (tick_gap net) gap (lately setting x h e comes old acts d st)
