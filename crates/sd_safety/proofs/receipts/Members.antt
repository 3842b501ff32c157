-- A new device is a member of the staged plan: its duty was given to it in the window, and a duty is given to members alone.
use Rattle.std.specs.Prelude.{◌≡◌, ℕ, ◌+◌, Bool, true, false, List, [], ◌∷◌, Option, Some, None, option_map, refl, ◌⊎◌, if◌then◌else◌}
use Rattle.std.specs.List.{list_any}
use Rattle.std.proofs.Common.{arith, ◌∙◌, ap, sym, inl, inr}
use Rattle.sd_num.specs.Lists.{map_or}
use Rattle.sd_plan.specs.declared.topo.Thing.TheVariants as thing
use Rattle.sd_plan.specs.declared.Duty.{Duty}
use Rattle.sd_plan.specs.declared.Plan.{Plan}
use Rattle.sd_plan.specs.Plans.{is_member}
use Rattle.sd_device.specs.Calls.{Call, Past}
use Rattle.sd_device.specs.Words.{after, transition_of, taken_up, duty_now, epoch_now}
use Rattle.sd_sched.specs.declared.Event.{Event}
use Rattle.sd_sched.specs.Events.{is_stage, is_commit}
use Rattle.sd_history.specs.World.{Setting, Seen, makes, fails, is_up, window, has_commit, staged_epoch, is_staged_member}
use Rattle.sd_history.specs.Steps.{Step, seen_of}
use Rattle.sd_history.specs.Chronicle.{past_in, chronicle, next_step}
use Rattle.sd_history.proofs.Given.{some_is, takes_given}
use Rattle.sd_history.proofs.Known.{up_case}
use Rattle.sd_safety.specs.invariant.Eras.{era, is_new}
use Rattle.sd_safety.specs.invariant.Invariant.{Invariant, AtEach}
use Rattle.sd_safety.specs.invariant.Guarded.{AreGuarded, IsSteady}
use Rattle.sd_safety.proofs.invariant.Prefix.{clean_before}
use Rattle.sd_safety.proofs.invariant.Sides.{not_both}
use Rattle.sd_safety.proofs.windows.Eras.{era_kept}
use Rattle.sd_safety.proofs.windows.NoneBeforeCommit.{epoch_within}
use Rattle.sd_safety.proofs.windows.StaysNew.{reached}
use Rattle.sd_safety.proofs.windows.Senders.{NewPast, new_past_of, new_by_past}
use Rattle.sd_safety.proofs.frame.PlainSteps.{staged_kept}
use Rattle.sd_safety.proofs.moves.Ahead.{IsAhead, always_ahead}
use Rattle.sd_safety.proofs.receipts.Alive.{Went, made, called, alone, went, made_epoch}

too_far : (n k : ℕ) → k ≡ n + 1 → (k ≡ n) ⊎ (k ≡ 0) → ⊥
too_far n k next (inl same) = omega (arith, next, same)
too_far n k next (inr none) = omega (arith, next, none)

module _ (setting : Setting) (e : Event) (history : List Event) (fair : AreGuarded setting) (clean : IsSteady setting (e ∷ history))
    (each : AtEach (Invariant setting) (chronicle setting history)) (x : ℕ)
    (new : is_new (chronicle setting (e ∷ history)) x ≡ true) where
  abbrev s : Step
  s = next_step setting (chronicle setting history) e

  abbrev Member : List Event → Type 0
  Member events = is_staged_member setting (seen_of (chronicle setting events)) x ≡ true

  own : NewPast (chronicle setting (e ∷ history)) x
  own = new_past_of setting (e ∷ history) x new

  commit : has_commit (seen_of (chronicle setting (e ∷ history))) ≡ true
  commit = reached (has_commit (seen_of (chronicle setting (e ∷ history)))) (era (chronicle setting (e ∷ history)))
      (epoch_within setting (e ∷ history) clean.is x (staged_epoch (seen_of (chronicle setting (e ∷ history)))) new)

  -- so no window closed or opened with the event
  no_commit : (c st : Bool) (w : Option (List Seen)) (y : Seen)
      → map_or (if c then None else if st then Some [] else option_map (λ v. y ∷ v) w) false (list_any (λ z. is_commit z.event)) ≡ true
      → (c ≡ false) × (st ≡ false)
  no_commit true st w y has = cc
  no_commit false true w y has = cc
  no_commit false false w y has = (refl, refl)

  goes_on : ((next_step setting (chronicle setting history) e).seen.closed ≡ false) × (is_stage e ≡ false)
  goes_on = no_commit s.seen.closed (is_stage e) (window (seen_of (chronicle setting history))) s.seen commit

  same_plan : is_staged_member setting (seen_of (chronicle setting (e ∷ history))) x ≡ is_staged_member setting (seen_of (chronicle setting history)) x
  same_plan = ap (λ (o : Option Plan). map_or o false (λ p. is_member p x)) (staged_kept setting (chronicle setting history) s goes_on.0 goes_on.1)

  number : epoch_now own.past ≡ era (chronicle setting history) + 1
  number = own.epoch ∙ ap (λ n. n + 1) (era_kept s (chronicle setting history) goes_on.0)

  module _ (rest : is_new (chronicle setting history) x ≡ true → Member history) where
    was_new : is_up (seen_of (chronicle setting history)) x ≡ true → (p : Past) → past_in (chronicle setting history) x ≡ Some p
        → epoch_now p ≡ era (chronicle setting history) + 1 → Member (e ∷ history)
    was_new up p there epoch = same_plan ∙ rest (new_by_past setting history x (record { past = p; up = up; there = there; epoch = epoch }))

    by_call : is_up (seen_of (chronicle setting history)) x ≡ true → (p : Past) (call : Call) → past_in (chronicle setting history) x ≡ Some p
        → own.past ≡ after p call → (t : Option Duty) → taken_up (transition_of p call) ≡ t → Member (e ∷ history)
    by_call up p call there is None none =
        was_new up p there (sym (ap (λ o. map_or (map_or (option_map Some o) (duty_now p) (λ told. told)) 0 (λ (v : Duty). v.epoch)) none)
        ∙ sym (ap epoch_now is) ∙ number)
    by_call up p call there is (Some u) takes =
        let ahead : IsAhead setting (chronicle setting history) x p u =
        always_ahead setting history fair (clean_before setting e history clean) each x p up there u (takes_given p call u takes) in
        same_plan ∙ ahead.member

    by_went : makes x e ≡ false → is_up (seen_of (chronicle setting history)) x ≡ true → Went setting e history x → Member (e ∷ history)
    by_went none up (made makes_) = absurd (not_both (makes x e) makes_ none)
    by_went none up (called p call acted there now) = by_call up p call there (some_is (sym own.there ∙ now)) (taken_up (transition_of p call)) refl
    by_went none up (alone same did) = was_new up own.past (sym same ∙ own.there) number

    by_made : (b : Bool) → makes x e ≡ b → Member (e ∷ history)
    by_made true makes_ =
        absurd (too_far (era (chronicle setting history)) (epoch_now own.past) number (made_epoch setting e history x own.past makes_ own.there))
    by_made false none =
        by_went none (up_case (makes x e) (fails (thing.Device x) e) (is_up (seen_of (chronicle setting history)) x) own.up none) (went setting e history x)

    member_so : Member (e ∷ history)
    member_so = by_made (makes x e) refl

pub new_is_member : (setting : Setting) (history : List Event) → AreGuarded setting → IsSteady setting history
    → AtEach (Invariant setting) (chronicle setting history) → (x : ℕ) → is_new (chronicle setting history) x ≡ true
    → is_staged_member setting (seen_of (chronicle setting history)) x ≡ true
new_is_member setting [] fair clean each x new = cc
new_is_member setting (e ∷ history) fair clean each x new =
    member_so setting e history fair clean each.0 x new (λ was. new_is_member setting history fair (clean_before setting e history clean) each.0 x was)
