-- A seal leaves all but who is sealed: epoch, acting, moves and what was heard. And the clauses on a closing ask nothing where the window stays open.
use Rattle.std.specs.Prelude.{◌≡◌, ℕ, Bool, true, false, ◌&&◌, not, List, ◌∷◌, nat_eq, Option, Some, None, is_some, option_map, refl, if◌then◌else◌}
use Rattle.std.proofs.Common.{◌∙◌, ap, sym}
use Rattle.sd_num.specs.Lists.{map_or}
use Rattle.sd_device.specs.Calls as calls
use Rattle.sd_device.specs.Calls.{Past}
use Rattle.sd_device.specs.Words.{after, has_moved}
use Rattle.sd_sched.specs.declared.Event.{Event}
use Rattle.sd_sched.specs.declared.Event.TheVariants as event
use Rattle.sd_history.specs.World.{Setting, is_up}
use Rattle.sd_history.specs.Steps.{seen_of, acts_in, epoch_in}
use Rattle.sd_history.specs.Chronicle.{answers_by, past_in, chronicle}
use Rattle.sd_safety.specs.invariant.Eras.{live_past, moved, on_primary, heard_at, hears}
use Rattle.sd_safety.proofs.invariant.Parents.{live_is}

abbrev sealed_past : Bool → Bool → Option Past → Option Past
sealed_past up b p = if up then (if b then option_map (λ past. after past calls.Seal) p else p) else None

abbrev plain_past : Bool → Option Past → Option Past
plain_past up p = if up then p else None

epoch_by : (up b : Bool) (p : Option Past)
    → option_map (λ a. a.epoch) (option_map answers_by (sealed_past up b p)) ≡ option_map (λ a. a.epoch) (option_map answers_by (plain_past up p))
epoch_by false b p = refl
epoch_by true false p = refl
epoch_by true true None = refl
epoch_by true true (Some past) = refl

acts_by : (up b : Bool) (p : Option Past)
    → map_or (option_map answers_by (sealed_past up b p)) false (λ a. a.acts) ≡ map_or (option_map answers_by (plain_past up p)) false (λ a. a.acts)
acts_by false b p = refl
acts_by true false p = refl
acts_by true true None = refl
acts_by true true (Some past) = refl

moved_by : (up b : Bool) (p : Option Past) → map_or (sealed_past up b p) false has_moved ≡ map_or (plain_past up p) false has_moved
moved_by false b p = refl
moved_by true false p = refl
moved_by true true None = refl
moved_by true true (Some past) = refl

some_by : (up b : Bool) (p : Option Past) → is_some (sealed_past up b p) ≡ is_some (plain_past up p)
some_by false b p = refl
some_by true false p = refl
some_by true true None = refl
some_by true true (Some past) = refl

heard_by : (b : Bool) (p : Option Past) (r h : ℕ)
    → (if map_or (if b then option_map (λ (past : Past). record { call = calls.Seal; transition = calls.Nothing }) p else None) false hears then r else h) ≡ h
heard_by false p r h = refl
heard_by true None r h = refl
heard_by true (Some past) r h = refl

module _ (setting : Setting) (history : List Event) (r d x : ℕ) where
  pub epoch_sealed : epoch_in (chronicle setting (event.Seal r d ∷ history)) x ≡ epoch_in (chronicle setting history) x
  epoch_sealed =
      ap (option_map (λ a. a.epoch)) (live_is setting (event.Seal r d ∷ history) x)
      ∙ epoch_by (is_up (seen_of (chronicle setting history)) x) (nat_eq d x) (past_in (chronicle setting history) x)
      ∙ sym (ap (option_map (λ a. a.epoch)) (live_is setting history x))

  pub acts_sealed : acts_in (chronicle setting (event.Seal r d ∷ history)) x ≡ acts_in (chronicle setting history) x
  acts_sealed =
      ap (λ o. map_or o false (λ a. a.acts)) (live_is setting (event.Seal r d ∷ history) x)
      ∙ acts_by (is_up (seen_of (chronicle setting history)) x) (nat_eq d x) (past_in (chronicle setting history) x)
      ∙ sym (ap (λ o. map_or o false (λ a. a.acts)) (live_is setting history x))

  pub moved_sealed : moved (chronicle setting (event.Seal r d ∷ history)) x ≡ moved (chronicle setting history) x
  moved_sealed = moved_by (is_up (seen_of (chronicle setting history)) x) (nat_eq d x) (past_in (chronicle setting history) x)

  there_sealed : is_some (live_past (chronicle setting (event.Seal r d ∷ history)) x) ≡ is_some (live_past (chronicle setting history) x)
  there_sealed = some_by (is_up (seen_of (chronicle setting history)) x) (nat_eq d x) (past_in (chronicle setting history) x)

  pub primary_sealed : on_primary (chronicle setting (event.Seal r d ∷ history)) x ≡ on_primary (chronicle setting history) x
  primary_sealed =
      ap (λ b. b && not (moved (chronicle setting (event.Seal r d ∷ history)) x) && not (acts_in (chronicle setting (event.Seal r d ∷ history)) x)) there_sealed
      ∙ ap (λ b. is_some (live_past (chronicle setting history) x) && not b && not (acts_in (chronicle setting (event.Seal r d ∷ history)) x)) moved_sealed
      ∙ ap (λ b. is_some (live_past (chronicle setting history) x) && not (moved (chronicle setting history) x) && not b) acts_sealed

  pub heard_sealed : heard_at (chronicle setting (event.Seal r d ∷ history)) x ≡ heard_at (chronicle setting history) x
  heard_sealed = heard_by (nat_eq d x) (past_in (chronicle setting history) x) r (heard_at (chronicle setting history) x)
