-- What a step leaves alone: one that closes and opens no window leaves era, plan, staged plan and, where it fails nothing, what failed; and it
-- leaves each device that it neither makes, fails nor calls.
use Rattle.std.specs.Prelude.{◌≡◌, ℕ, ◌+◌, Bool, true, false, ◌&&◌, ◌||◌, not, List, [], ◌∷◌, filter_map, Option, Some, None, is_some, option_map, option_and_then, refl, if◌then◌else◌}
use Rattle.std.specs.List.{list_any, cons_option}
use Rattle.std.proofs.Common.{◌∙◌, ap}
use Rattle.sd_num.specs.Lists.{map_or, same_number, leading}
use Rattle.sd_device.specs.Calls.{Past}
use Rattle.sd_device.specs.Words.{after, has_moved}
use Rattle.sd_sched.specs.Events.{is_stage}
use Rattle.sd_history.specs.Things.{failure_of}
use Rattle.sd_history.specs.World.{Setting, Seen, up_after, is_up, window, in_window, staged, staged_epoch, plan_numbered}
use Rattle.sd_history.specs.Steps.{Act, Makes, Calls, Asks, Passes, Step, seen_of, changed, live_answers, answers_in, acts_in, epoch_in, parent_in, given_in}
use Rattle.sd_history.specs.Chronicle.{new_past, past_in, past_after}
use Rattle.sd_safety.specs.invariant.Eras.{failed_now, live_past, moved, on_primary}
use Rattle.sd_safety.proofs.windows.Eras.{era_kept}

module _ (setting : Setting) (s : Step) (steps : List Step) (open_ : s.seen.closed ≡ false) where
  -- Windows

  pub window_on : is_stage s.seen.event ≡ false → window (seen_of (s ∷ steps)) ≡ option_map (λ w. s.seen ∷ w) (window (seen_of steps))
  window_on no_stage =
      ap (λ b. if b then None else if is_stage s.seen.event then Some [] else option_map (λ w. s.seen ∷ w) (window (seen_of steps))) open_
      ∙ ap (λ b. if b then Some [] else option_map (λ w. s.seen ∷ w) (window (seen_of steps))) no_stage

  added : (test : Seen → Bool) (w : Option (List Seen)) → test s.seen ≡ false
      → map_or (option_map (λ v. s.seen ∷ v) w) false (list_any test) ≡ map_or w false (list_any test)
  added test None none = refl
  added test (Some v) none = ap (λ b. b || list_any test v) none

  pub in_window_on : (test : Seen → Bool) → is_stage s.seen.event ≡ false → test s.seen ≡ false
      → in_window test (seen_of (s ∷ steps)) ≡ in_window test (seen_of steps)
  in_window_on test no_stage none = ap (λ w. map_or w false (list_any test)) (window_on no_stage) ∙ added test (window (seen_of steps)) none

  found_in : (test : Seen → Bool) (w : Option (List Seen)) → is_some w ≡ true → test s.seen ≡ true
      → map_or (option_map (λ v. s.seen ∷ v) w) false (list_any test) ≡ true
  found_in test None some is = cc
  found_in test (Some v) some is = ap (λ b. b || list_any test v) is

  pub in_window_now : (test : Seen → Bool) → is_stage s.seen.event ≡ false → is_some (window (seen_of steps)) ≡ true → test s.seen ≡ true
      → in_window test (seen_of (s ∷ steps)) ≡ true
  in_window_now test no_stage some is = ap (λ w. map_or w false (list_any test)) (window_on no_stage) ∙ found_in test (window (seen_of steps)) some is

  pub staged_epoch_on : staged_epoch (seen_of (s ∷ steps)) ≡ staged_epoch (seen_of steps)
  staged_epoch_on = ap (λ n. n + 1) (era_kept s steps open_)

  staged_by : (n : ℕ) (w : Option (List Seen))
      → option_map (λ v. plan_numbered setting n) (option_map (λ v. s.seen ∷ v) w) ≡ option_map (λ v. plan_numbered setting n) w
  staged_by n None = refl
  staged_by n (Some v) = refl

  pub staged_on : is_stage s.seen.event ≡ false → staged setting (seen_of (s ∷ steps)) ≡ staged setting (seen_of steps)
  staged_on no_stage =
      ap (λ w. option_map (λ v. plan_numbered setting (staged_epoch (seen_of (s ∷ steps)))) w) (window_on no_stage)
      ∙ staged_by (staged_epoch (seen_of (s ∷ steps))) (window (seen_of steps))
      ∙ ap (λ n. option_map (λ v. plan_numbered setting n) (window (seen_of steps))) staged_epoch_on

  -- What failed

  pub failed_on : failure_of s.seen.event ≡ None → failed_now (s ∷ steps) ≡ failed_now steps
  failed_on none =
      ap (λ b. filter_map (λ (x : Seen). failure_of x.event) (if not b then s.seen ∷ leading (λ x. not x.closed) (seen_of steps) else [])) open_
      ∙ ap (λ o. cons_option o (failed_now steps)) none

-- Devices that the step leaves alone
pub record IsLeft (s : Step) (x : ℕ) : Type 0 where
  pub stands : up_after x s.seen.event ≡ None
  pub uncalled : same_number (changed s.act) x ≡ false

module _ (s : Step) (steps : List Step) (x : ℕ) (left : IsLeft s x) where
  pub up_on : is_up (seen_of (s ∷ steps)) x ≡ is_up (seen_of steps) x
  up_on = ap (λ o. map_or o (is_up (seen_of steps) x) (λ told. told)) left.stands

  pub answers_on : live_answers (s ∷ steps) x ≡ live_answers steps x
  answers_on =
      ap (λ b. if b then answers_in (s ∷ steps) x else None) up_on
      ∙ ap (λ b. if is_up (seen_of steps) x then map_or (if b then Some s.told.answers else None) (answers_in steps x) (λ told. told) else None) left.uncalled

  pub acts_on : acts_in (s ∷ steps) x ≡ acts_in steps x
  acts_on = ap (λ o. map_or o false (λ a. a.acts)) answers_on

  pub epoch_on : epoch_in (s ∷ steps) x ≡ epoch_in steps x
  epoch_on = ap (option_map (λ a. a.epoch)) answers_on

  pub parent_on : parent_in (s ∷ steps) x ≡ parent_in steps x
  parent_on = ap (option_and_then (λ a. a.parent)) answers_on

  pub given_on : given_in (s ∷ steps) x ≡ given_in steps x
  given_on = ap (option_and_then (λ a. option_map (λ duty. duty.epoch) a.given)) answers_on

  past_by : (act : Act) (p : Option Past) → same_number (changed act) x ≡ false → past_after act x p ≡ p
  past_by (Makes e making) p other = ap (λ b. if b then Some (new_past making) else p) other
  past_by (Calls e call) p other = ap (λ b. if b then option_map (λ past. after past call) p else p) other
  past_by (Asks e counter) p other = refl
  past_by Passes p other = refl

  pub past_on : past_in (s ∷ steps) x ≡ past_in steps x
  past_on = past_by s.act (past_in steps x) left.uncalled

  pub live_past_on : live_past (s ∷ steps) x ≡ live_past steps x
  live_past_on = ap (λ b. if b then past_in (s ∷ steps) x else None) up_on ∙ ap (λ p. if is_up (seen_of steps) x then p else None) past_on

  pub primary_on : on_primary (s ∷ steps) x ≡ on_primary steps x
  primary_on =
      ap (λ p. is_some p && not (map_or p false has_moved) && not (acts_in (s ∷ steps) x)) live_past_on
      ∙ ap (λ b. is_some (live_past steps x) && not (moved steps x) && not b) acts_on
