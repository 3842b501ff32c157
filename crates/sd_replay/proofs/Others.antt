-- An accepted event changes how its own device stands, and no other's, unless the window closes with it. So only devices of the topology are up.
use Rattle.std.specs.Prelude.{◌≡◌, ℕ, Bool, true, false, ◌&&◌, ◌||◌, List, [], ◌∷◌, Option, Some, None, option_map, is_some, refl, if◌then◌else◌}
use Rattle.std.specs.List.{list_any}
use Rattle.std.proofs.Common.{sym, ap, ◌∙◌, inl, inr}
use Rattle.std.proofs.lemmas.Bool.{or_parts, cases_Bool}
use Rattle.sd_num.specs.Lists.{map_or, same_number}
use Rattle.sd_num.proofs.Shared.{same_number-some}
use Rattle.sd_sched.specs.declared.Event.{Event}
use Rattle.sd_sched.specs.declared.Event.TheVariants as event
use Rattle.sd_sched.specs.Events.{device_of, joined, is_stage}
use Rattle.sd_history.specs.World.{Setting, Seen, up_after, is_up, is_counted, window, window_is_open, joined_in_window}
use Rattle.sd_history.specs.Steps.{Step, seen_of, changed, live_answers}
use Rattle.sd_history.specs.Refusals.{window_order_within, window_order}
use Rattle.sd_history.specs.Accepted.{AreSteps}
use Rattle.sd_history.proofs.Clear.{accepted_is_clear}
use Rattle.sd_history.proofs.Known.{named_is_known}
use Rattle.sd_replay.proofs.Loops.{UpIsKnown}
use Rattle.sd_history.proofs.flights.Places.{changed_named}
use Rattle.sd_world.specs.world.Registers.{untouched}
use Rattle.sd_world.proofs.world.Changes.{changes_other}
use Rattle.sd_world.proofs.world.Shutting.{window_next}
use Rattle.sd_replay.specs.Standing.{parent_row_in}

-- another device is up as before
up_as_before : (e : Event) (d : ℕ) (b : Bool) → same_number (device_of e) d ≡ false → b ≡ map_or (up_after d e) b (λ told. told)
up_as_before e d b other = (changes_other e d 0 (record untouched { up = b }) other).up

-- after accepted steps only devices of the topology are up
pub steps_know : (setting : Setting) (steps : List Step) → AreSteps setting steps → UpIsKnown setting steps
steps_know setting [] is d up = cc
steps_know setting (s ∷ earlier) is d up = elim (cases_Bool (same_number (device_of s.seen.event) d)) [
  | inl named ↦ named_is_known setting earlier s.seen.event d is.1 (same_number-some (device_of s.seen.event) d named)
  | inr other ↦ steps_know setting earlier is.0 d (up_as_before s.seen.event d (is_up (seen_of earlier) d) other ∙ up)
]

module _ (setting : Setting) (s : Step) (earlier : List Step) (is : AreSteps setting (s ∷ earlier)) (d : ℕ) (open_ : s.seen.closed ≡ false)
    (other : same_number (device_of s.seen.event) d ≡ false) where
  up_same : is_up (seen_of (s ∷ earlier)) d ≡ is_up (seen_of earlier) d
  up_same = sym (up_as_before s.seen.event d (is_up (seen_of earlier) d) other)

  -- no window is open where a plan is staged
  stage_first : is_stage s.seen.event ≡ true → window_is_open (seen_of earlier) ≡ false
  stage_first stages =
      let order : window_order setting earlier s.seen.event ≡ false =
      (accepted_is_clear setting earlier s.seen.event is.1).in_window in
      by (window_is_open (seen_of earlier)) (ap (λ b. b && window_is_open (seen_of earlier)) (sym stages)
      ∙ (or_parts _ _ (or_parts _ _ (or_parts _ _ (or_parts _ (window_order_within earlier s.seen.event) order).0).0).0).0)
    where
      by : (b : Bool) → (true && b) ≡ false → b ≡ false
      by true shut = shut
      by false shut = refl

  join_other : same_number (joined s.seen.event) d ≡ false
  join_other = by s.seen.event other
    where
      by : (e : Event) → same_number (device_of e) d ≡ false → same_number (joined e) d ≡ false
      by (event.Join r m c clock eps) apart = apart
      by _ apart = refl

  joined_same : joined_in_window (seen_of (s ∷ earlier)) d ≡ joined_in_window (seen_of earlier) d
  joined_same =
      ap (λ (o : Option (List Seen)). map_or o false (list_any (λ x. same_number (joined x.event) d))) (window_next s.seen (seen_of earlier) open_)
      ∙ by (is_stage s.seen.event) (window (seen_of earlier)) (λ stages. stage_first stages) refl
    where
      by : (b : Bool) (o : Option (List Seen)) → (is_stage s.seen.event ≡ true → is_some o ≡ false) → is_stage s.seen.event ≡ b
          → map_or (if b then Some [] else option_map (λ w. s.seen ∷ w) o) false (list_any (λ x. same_number (joined x.event) d))
          ≡ map_or o false (list_any (λ x. same_number (joined x.event) d))
      by true None first_ stages = refl
      by true (Some w) first_ stages = let clash : true ≡ false = first_ stages in cc
      by false None first_ stages = refl
      by false (Some w) first_ stages = ap (λ b. b || list_any (λ x. same_number (joined x.event) d) w) join_other

  counted_same : is_counted setting (seen_of (s ∷ earlier)) d ≡ is_counted setting (seen_of earlier) d
  counted_same = rw (up_same, joined_same, open_) refl

  change_other : same_number (changed s.act) d ≡ false
  change_other = by (changed s.act) (λ x at. changed_named setting earlier s.seen.event x (sym (ap (λ (y : Step). changed y.act) is.2) ∙ at))
    where
      by : (o : Option ℕ) → ((x : ℕ) → o ≡ Some x → device_of s.seen.event ≡ Some x) → same_number o d ≡ false
      by None named = refl
      by (Some x) named = sym (ap (λ o. same_number o d) (named x refl)) ∙ other

  answers_same : live_answers (s ∷ earlier) d ≡ live_answers earlier d
  answers_same = rw (up_same, change_other) refl

  -- it stands as before
  pub parent_row_same : parent_row_in setting (s ∷ earlier) d ≡ parent_row_in setting earlier d
  parent_row_same = rw (counted_same, answers_same) refl
