-- How a device that acts after an event came to act: it was made, it acted before, or it took over.
use Rattle.std.specs.Prelude.{◌≡◌, ℕ, ◌+◌, Bool, true, false, List, ◌∷◌, Option, Some, None, option_map, refl, ◌⊎◌, if◌then◌else◌}
use Rattle.std.proofs.Common.{◌∙◌, ap, sym, inl, inr}
use Rattle.std.proofs.lemmas.Bool.{eqb-true, eq-eqb, false_from_ne_true}
use Rattle.sd_num.specs.Lists.{map_or, same_number}
use Rattle.sd_plan.specs.declared.topo.Thing.TheVariants as thing
use Rattle.sd_plan.specs.declared.Duty.{Duty}
use Rattle.sd_device.specs.Calls as calls
use Rattle.sd_device.specs.Calls.{Call, Transition, Committed, CallDone, Past}
use Rattle.sd_device.specs.Words.{after, transition_of, taken_up, duty_now, epoch_now, is_acting, stamp_now}
use Rattle.sd_sched.specs.declared.Event.{Event}
use Rattle.sd_history.specs.World.{Setting, makes, fails, is_up, has_commit}
use Rattle.sd_history.specs.Steps.{Calls, Step, seen_of, act_by}
use Rattle.sd_history.specs.Chronicle.{past_in, chronicle, next_step}
use Rattle.sd_history.proofs.Given.{some_is, takes_given}
use Rattle.sd_history.proofs.Known.{up_case}
use Rattle.sd_safety.proofs.invariant.Parts.{premises_of}
use Rattle.sd_device.proofs.Reached.{added}
use Rattle.sd_safety.specs.invariant.Eras.{era, plan_now, is_old, is_new, did_by}
use Rattle.sd_safety.specs.invariant.Invariant.{Invariant, AtEach}
use Rattle.sd_safety.specs.invariant.Guarded.{AreGuarded, IsSteady}
use Rattle.sd_safety.proofs.invariant.Prefix.{clean_before}
use Rattle.sd_safety.proofs.invariant.Sides.{not_both}
use Rattle.sd_safety.proofs.timers.Transitions.{Cases, by_case}
use Rattle.sd_safety.proofs.timers.Pasts.{takeover_from_backup}
use Rattle.sd_safety.proofs.timers.Turns.{BeganToAct, by_takeover, by_commit, began_to_act, IsTakeover, is_takeover}
use Rattle.sd_safety.specs.messages.Moments.{whole, IsChronicle, Moment}
use Rattle.sd_safety.specs.messages.Stamping.{EntersNot, enters, stays, calls as goes_on}
use Rattle.sd_safety.proofs.messages.Tails.{history_chronicle}
use Rattle.sd_safety.proofs.messages.Acting.{Acting, acts_on}
use Rattle.sd_safety.proofs.messages.Latest.{never_committed}
use Rattle.sd_safety.proofs.messages.Receipts.{call_is}
use Rattle.sd_safety.proofs.silences.RootIsSource.{entered_still}
use Rattle.sd_safety.proofs.moves.Ahead.{IsAhead, always_ahead}
use Rattle.sd_safety.proofs.receipts.Alive.{Went, made, called, alone, went}
use Rattle.sd_safety.proofs.receipts.Stood.{epoch_is}
use Rattle.sd_safety.proofs.terms.Actors.{IsActor, actor_is_new, mover_old, mover_backup}

committed_cases : (past : Past) (u : Duty) → Cases past (λ call transition. transition ≡ Committed u → (c : ℕ) × (call ≡ calls.Commit c))
committed_cases past u =
    record {
      emitted = λ c e is. cc;
      took = λ c e t is. cc;
      moved = λ c e t m is. cc;
      still = λ c e t m is. cc;
      entered = λ link message c duty edge is. cc;
      accepted = λ link message c edge is. cc;
      committed = λ c duty a is. (c, refl);
      recommitted = λ c duty a is. cc;
      nothing = λ call n is. cc;
    }

pub committed_is : (past : Past) (call : Call) (u : Duty) → transition_of past call ≡ Committed u → (c : ℕ) × (call ≡ calls.Commit c)
committed_is past call u is = by_case past (λ c transition. transition ≡ Committed u → (k : ℕ) × (c ≡ calls.Commit k)) (committed_cases past u) call is

-- How who acts came to act

module _ (setting : Setting) (e : Event) (history : List Event) (fair : AreGuarded setting) (clean : IsSteady setting (e ∷ history))
    (each : AtEach (Invariant setting) (chronicle setting (e ∷ history))) where
  abbrev one : List Step
  one = chronicle setting history

  abbrev here : Moment
  here = record { step = next_step setting (chronicle setting history) e; earlier = chronicle setting history }

  clean_then : IsSteady setting history
  clean_then = clean_before setting e history clean

  ends : IsChronicle setting (chronicle setting (e ∷ history))
  ends = history_chronicle setting (e ∷ history) clean.is

  -- it acted before
  pub record WentOn (a : ℕ) (past : Past) : Type 0 where
    pub old : IsActor setting (chronicle setting history) a
    pub none : makes a e ≡ false
    pub term : (stamp_now past).term ≡ (stamp_now old.past).term
    pub epoch : (epoch_now past ≡ epoch_now old.past)
        ⊎ ((epoch_now past ≡ era (chronicle setting history) + 1) × (has_commit (seen_of (chronicle setting history)) ≡ false))
    pub still : (q : Past) (call : Call) → act_by setting (chronicle setting history) e ≡ Calls a call → past_in (chronicle setting history) a ≡ Some q
        → EntersNot q call

  -- it took over
  pub record TakesOver (a : ℕ) (past : Past) : Type 0 where
    pub then_ : Past
    pub up : is_up (seen_of (chronicle setting history)) a ≡ true
    pub there : past_in (chronicle setting history) a ≡ Some then_
    pub idle : is_acting then_ ≡ false
    pub none : makes a e ≡ false
    pub term : (stamp_now past).term ≡ (stamp_now then_).term + 1
    pub epoch : epoch_now past ≡ epoch_now then_
    pub old : is_old (chronicle setting history) a ≡ true
    pub backup : a ≡ (plan_now setting (chronicle setting history)).backup_root

  pub data From (a : ℕ) (past : Past) : Type 0 where
    started : makes a e ≡ true → From a past
    went_on : WentOn a past → From a past
    took_over : TakesOver a past → From a past

  pub new_number : (x : ℕ) (p : Past) → is_up (seen_of (chronicle setting history)) x ≡ true → past_in (chronicle setting history) x ≡ Some p
      → is_new (chronicle setting history) x ≡ true → epoch_now p ≡ era (chronicle setting history) + 1
  new_number x p up there new = eqb-true (epoch_now p) (era one + 1) (sym (ap (λ o. same_number o (era one + 1)) (epoch_is setting history x p up there)) ∙ new)

  pub old_number : (x : ℕ) (p : Past) → is_up (seen_of (chronicle setting history)) x ≡ true → past_in (chronicle setting history) x ≡ Some p
      → is_old (chronicle setting history) x ≡ true → epoch_now p ≡ era (chronicle setting history)
  old_number x p up there old = eqb-true (epoch_now p) (era one) (sym (ap (λ o. same_number o (era one)) (epoch_is setting history x p up there)) ∙ old)

  pub taken_number : (p : Past) (call : Call) (u : Duty) → taken_up (transition_of p call) ≡ Some u → epoch_now (after p call) ≡ u.epoch
  taken_number p call u takes = ap (λ o. map_or (map_or (option_map Some o) (duty_now p) (λ told. told)) 0 (λ (v : Duty). v.epoch)) takes

  pub kept_number : (p : Past) (call : Call) → taken_up (transition_of p call) ≡ None → epoch_now (after p call) ≡ epoch_now p
  kept_number p call none = ap (λ o. map_or (map_or (option_map Some o) (duty_now p) (λ told. told)) 0 (λ (v : Duty). v.epoch)) none

  module _ (a : ℕ) (actor : IsActor setting (chronicle setting (e ∷ history)) a) where
    unbroken_by : (p : Past) (call : Call) → act_by setting (chronicle setting history) e ≡ Calls a call → past_in (chronicle setting history) a ≡ Some p
        → EntersNot p call
        → (q : Past) (call' : Call) → act_by setting (chronicle setting history) e ≡ Calls a call' → past_in (chronicle setting history) a ≡ Some q
        → EntersNot q call'
    unbroken_by p call acted there not_ q call' acted' there' =
        ap (λ z. enters (transition_of z call')) (some_is (sym there' ∙ there)) ∙ ap (λ z. enters (transition_of p z)) (call_is (sym acted' ∙ acted)) ∙ not_

    -- no call where the device did nothing
    did_none : (q : Past) (call : Call) → act_by setting (chronicle setting history) e ≡ Calls a call → past_in (chronicle setting history) a ≡ Some q
        → did_by (chronicle setting history) (act_by setting (chronicle setting history) e) a ≡ None → ⊥
    did_none q call acted there none = some_none (sym is ∙ none)
      where
        is : did_by (chronicle setting history) (act_by setting (chronicle setting history) e) a
            ≡ Some (record { call = call; transition = transition_of q call })
        is =
            ap (λ z. did_by (chronicle setting history) z a) acted
            ∙ ap (λ b. if b then option_map (λ z. record { call = call; transition = transition_of z call }) (past_in (chronicle setting history) a) else None)
            (eq-eqb a a refl)
            ∙ ap (option_map (λ z. record { call = call; transition = transition_of z call })) there

        some_none : {x : CallDone} → Some x ≡ None → ⊥
        some_none h = cc

    epoch_on : (p : Past) (call : Call) → is_up (seen_of (chronicle setting history)) a ≡ true → past_in (chronicle setting history) a ≡ Some p
        → is_acting p ≡ true → (t : Option Duty) → taken_up (transition_of p call) ≡ t
        → (epoch_now (after p call) ≡ epoch_now p)
        ⊎ ((epoch_now (after p call) ≡ era (chronicle setting history) + 1) × (has_commit (seen_of (chronicle setting history)) ≡ false))
    epoch_on p call up there acts None takes = inl (kept_number p call takes)
    epoch_on p call up there acts (Some u) takes =
        inr (
          taken_number p call u takes
              ∙ ahead.number,
          false_from_ne_true (has_commit (seen_of one))
              (λ commit. ahead.other (new_number a p up there (actor_is_new setting history fair clean_then each.0 commit a was))),
        )
      where
        ahead : IsAhead setting (chronicle setting history) a p u
        ahead = always_ahead setting history fair clean_then each.0 a p up there u (takes_given p call u takes)

        was : IsActor setting (chronicle setting history) a
        was = record { past = p; up = up; there = there; acts = acts }

    by_call : makes a e ≡ false → is_up (seen_of (chronicle setting history)) a ≡ true → (p : Past) (call : Call)
        → act_by setting (chronicle setting history) e ≡ Calls a call → past_in (chronicle setting history) a ≡ Some p → actor.past ≡ after p call → (b : Bool)
        → is_acting p ≡ b
        → From a actor.past
    by_call none up p call acted there now true acts =
        went_on (record {
          old = was;
          none = none;
          term = ap (λ z. (stamp_now z).term) now ∙ on.term;
          epoch = moved_ (epoch_on p call up there acts (taken_up (transition_of p call)) refl);
          still = unbroken_by p call acted there not_;
        })
      where
        was : IsActor setting (chronicle setting history) a
        was = record { past = p; up = up; there = there; acts = acts }

        not_ : EntersNot p call
        not_ = false_from_ne_true (enters (transition_of p call))
            (λ is. not_both (is_acting (after p call)) (sym (ap is_acting now) ∙ actor.acts) (entered_still p call is))

        on : Acting p (after p call)
        on = acts_on p (after p call) acts (goes_on stays call not_)

        moved_ : (epoch_now (after p call) ≡ epoch_now p)
            ⊎ ((epoch_now (after p call) ≡ era (chronicle setting history) + 1) × (has_commit (seen_of (chronicle setting history)) ≡ false))
            → (epoch_now actor.past ≡ epoch_now p)
            ⊎ ((epoch_now actor.past ≡ era (chronicle setting history) + 1) × (has_commit (seen_of (chronicle setting history)) ≡ false))
        moved_ (inl same) = inl (ap epoch_now now ∙ same)
        moved_ (inr new) = inr (ap epoch_now now ∙ new.0, new.1)
    by_call none up p call acted there now false idle = began (transition_of p call) refl (began_to_act p call idle (sym (ap is_acting now) ∙ actor.acts))
      where
        began : (transition : Transition) → transition_of p call ≡ transition → BeganToAct transition → From a actor.past
        began _ is by_takeover =
            let t : IsTakeover p call = is_takeover p call is in
            let from = takeover_from_backup p t.counter t.takes in
            took_over
            (record {
              then_ = p;
              up = up;
              there = there;
              idle = idle;
              none = none;
              term = ap (λ z. (stamp_now z).term) now ∙ ap (λ transition. (stamp_now (added p call transition)).term) is;
              epoch = ap epoch_now now ∙ ap (λ transition. epoch_now (added p call transition)) is;
              old = mover_old setting history fair clean_then each.0 a p up there idle from.moved from.backup_root;
              backup = mover_backup setting history fair clean_then each.0 a p up there idle from.moved from.backup_root;
            })
        began _ is (by_commit duty) =
            let c = committed_is p call duty is in
            absurd
            (never_committed setting (chronicle setting (e ∷ history)) here a c.0 p duty ends
            (premises_of setting (seen_of (chronicle setting (e ∷ history))) clean.premises).renew whole (acted ∙ ap (Calls a) c.1) there
            (sym (ap (transition_of p) c.1) ∙ is))

    by_went : makes a e ≡ false → is_up (seen_of (chronicle setting history)) a ≡ true → Went setting e history a → From a actor.past
    by_went none up (made makes_) = absurd (not_both (makes a e) makes_ none)
    by_went none up (called p call acted there now) = by_call none up p call acted there (some_is (sym actor.there ∙ now)) (is_acting p) refl
    by_went none up (alone same did) =
        let there : past_in (chronicle setting history) a ≡ Some actor.past = sym same ∙ actor.there in
        went_on
        (record {
          old = record { past = actor.past; up = up; there = there; acts = actor.acts };
          none = none;
          term = refl;
          epoch = inl refl;
          still = λ q call acted there'. absurd (did_none q call acted there' did);
        })

    from_made : (b : Bool) → makes a e ≡ b → From a actor.past
    from_made true makes_ = started makes_
    from_made false none =
        by_went none (up_case (makes a e) (fails (thing.Device a) e) (is_up (seen_of (chronicle setting history)) a) actor.up none) (went setting e history a)

    pub from : From a actor.past
    from = from_made (makes a e) refl
