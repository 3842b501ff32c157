-- One event back, of a device that acts and has moved: it acted before, or it took over with the event, from its backup.
use Rattle.std.specs.Prelude.{◌≡◌, ℕ, Bool, true, false, ◌&&◌, List, ◌∷◌, Some, None, option_map, refl, if◌then◌else◌}
use Rattle.std.proofs.Common.{◌∙◌, ap, sym}
use Rattle.std.proofs.lemmas.Bool.{eq-eqb, both_ways}
use Rattle.sd_num.specs.Lists.{map_or}
use Rattle.sd_device.specs.Calls.{Call, Transition, Entered, Committed, Recommitted, Accepted, Moved, TookOver, Emitted, Nothing, CallDone, Past}
use Rattle.sd_device.specs.Words.{after, transition_of, has_moved, is_acting, is_takeover}
use Rattle.sd_sched.specs.declared.Event.{Event}
use Rattle.sd_history.specs.World.{Setting, makes}
use Rattle.sd_history.specs.Steps.{Calls, Step}
use Rattle.sd_history.specs.Chronicle.{past_in, chronicle, next_step}
use Rattle.sd_history.proofs.Given.{some_is}
use Rattle.sd_safety.specs.invariant.Eras as eras
use Rattle.sd_safety.specs.invariant.Eras.{does}
use Rattle.sd_safety.proofs.invariant.Sides.{not_both}
use Rattle.sd_safety.specs.messages.Moments.{is_emission}
use Rattle.sd_safety.proofs.timers.Pasts.{takeover_from_backup}
use Rattle.sd_safety.proofs.timers.Turns as turns
use Rattle.sd_safety.proofs.timers.Turns.{IsTakeover, BeganToAct, by_takeover, by_commit, began_to_act, after_commit}
use Rattle.sd_safety.proofs.silences.NextEmissions.{emits_here}
use Rattle.sd_safety.proofs.receipts.Alive.{Went, made, called, alone, went}
use Rattle.sd_safety.specs.behind.Feeding.{takes_over}

-- what a step made a device do that was called
pub does_is : (test : CallDone → Bool) (older : List Step) (s : Step) (d : ℕ) (past : Past) (call : Call) → past_in older d ≡ Some past → s.act ≡ Calls d call
    → does test older s d ≡ test (record { call = call; transition = transition_of past call })
does_is test older s d past call there act =
    ap (λ a. map_or (eras.did_by older a d) false test) act
    ∙ ap (λ c. map_or (if c then option_map (λ p. record { call = call; transition = transition_of p call }) (past_in older d) else None) false test)
    (eq-eqb d d refl)
    ∙ ap (λ o. map_or (option_map (λ p. record { call = call; transition = transition_of p call }) o) false test) there

-- and whether it emitted
pub emits_is : (older : List Step) (s : Step) (d : ℕ) (past : Past) (call : Call) → past_in older d ≡ Some past → s.act ≡ Calls d call
    → emits_here d older s.act ≡ is_emission (transition_of past call)
emits_is older s d past call there act =
    ap (emits_here d older) act ∙ ap (λ c. c && map_or (past_in older d) false (λ p. is_emission (transition_of p call))) (eq-eqb d d refl)
    ∙ ap (λ o. map_or o false (λ p. is_emission (transition_of p call))) there

-- who acts does not take over
acting_takes_not : (past : Past) (call : Call) → is_acting past ≡ true → is_takeover (transition_of past call) ≡ false
acting_takes_not past call acts = go (transition_of past call) refl
  where
    go : (transition : Transition) → transition_of past call ≡ transition → is_takeover transition ≡ false
    go TookOver is = let t : IsTakeover past call = turns.is_takeover past call is in
        absurd (both_ways (is_acting past) (takeover_from_backup past t.counter t.takes).acts_not acts)
    go (Entered duty edge) is = refl
    go (Committed duty) is = refl
    go (Recommitted duty) is = refl
    go (Accepted edge) is = refl
    go Moved is = refl
    go Emitted is = refl
    go Nothing is = refl

-- it acted before and did not take over now, or it took over from its backup
pub data HasActed (older : List Step) (s : Step) (b : ℕ) : Type 0 where
  acted : (past : Past) → past_in older b ≡ Some past → is_acting past ≡ true → does takes_over older s b ≡ false → HasActed older s b
  took : (past : Past) → past_in older b ≡ Some past → has_moved past ≡ true → does takes_over older s b ≡ true → emits_here b older s.act ≡ true
      → HasActed older s b

took_by : (older : List Step) (s : Step) (b : ℕ) (past : Past) (call : Call) → past_in older b ≡ Some past → s.act ≡ Calls b call
    → transition_of past call ≡ TookOver → HasActed older s b
took_by older s b past call there act transition =
    let t : IsTakeover past call = turns.is_takeover past call transition in
    took past there (takeover_from_backup past t.counter t.takes).moved (does_is takes_over older s b past call there act ∙ ap is_takeover transition)
    (emits_is older s b past call there act ∙ ap is_emission transition)

pub has_acted : (setting : Setting) (x : Event) (h : List Event) (b : ℕ) (past : Past) → past_in (chronicle setting (x ∷ h)) b ≡ Some past → makes b x ≡ false
    → has_moved past ≡ true → is_acting past ≡ true
    → HasActed (chronicle setting h) (next_step setting (chronicle setting h) x) b
has_acted setting x h b past there none put acts = by (went setting x h b)
  where
    older : List Step
    older = chronicle setting h

    by_call : (was : Past) (call : Call) → (next_step setting (chronicle setting h) x).act ≡ Calls b call → past_in (chronicle setting h) b ≡ Some was
        → past ≡ after was call → (c : Bool) → is_acting was ≡ c
        → HasActed (chronicle setting h) (next_step setting (chronicle setting h) x) b
    by_call was call act there' now true acting =
        acted was there' acting (does_is takes_over (chronicle setting h) (next_step setting (chronicle setting h) x) b was call there' act
        ∙ acting_takes_not was call acting)
    by_call was call act there' now false idle = began (transition_of was call) refl (began_to_act was call idle (sym (ap is_acting now) ∙ acts))
      where
        began : (transition : Transition) → transition_of was call ≡ transition → BeganToAct transition
            → HasActed (chronicle setting h) (next_step setting (chronicle setting h) x) b
        began _ is by_takeover = took_by (chronicle setting h) (next_step setting (chronicle setting h) x) b was call there' act is
        began _ is (by_commit duty) = absurd (not_both (has_moved past) put (ap has_moved now ∙ (after_commit was call duty is).unmoved))

    by : Went setting x h b → HasActed (chronicle setting h) (next_step setting (chronicle setting h) x) b
    by (made makes_) = absurd (not_both (makes b x) makes_ none)
    by (called was call act there' now) = by_call was call act there' (some_is (sym there ∙ now)) (is_acting was) refl
    by (alone same did) = acted past (sym same ∙ there) acts (ap (λ o. map_or o false takes_over) did)
