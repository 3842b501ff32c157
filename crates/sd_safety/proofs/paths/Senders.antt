-- A device that failed in the era sends and emits no message of its plan later in it.
use Rattle.std.specs.Prelude.{◌≡◌, ℕ, zero, suc, ◌+◌, ◌≤◌, true, false, List, [], ◌∷◌, Some, refl}
use Rattle.std.proofs.Common.{arith, ◌∙◌, ap, sym, subst}
use Rattle.std.proofs.lemmas.Bool.{eq-eqb, false_from_ne_true}
use Rattle.sd_num.specs.Lists.{same_number}
use Rattle.sd_plan.specs.declared.topo.Thing.TheVariants as thing
use Rattle.sd_plan.specs.declared.Duty.{Duty}
use Rattle.sd_plan.specs.declared.Edge.{Edge}
use Rattle.sd_device.specs.declared.msg.Stamp.{Stamp}
use Rattle.sd_device.specs.declared.msg.Message.{Message}
use Rattle.sd_device.specs.msg.Stamps.{is_newer}
use Rattle.sd_device.specs.Calls.{Call, Past, Receive}
use Rattle.sd_device.specs.Words.{epoch_now, given_now, stamp_now}
use Rattle.sd_sched.specs.declared.Event.{Event}
use Rattle.sd_history.specs.World.{Setting, fails, is_up}
use Rattle.sd_history.specs.Steps.{Step, Calls, seen_of}
use Rattle.sd_history.specs.Chronicle.{past_in, chronicle}
use Rattle.sd_safety.specs.invariant.Eras.{era, device_failed_now, is_old}
use Rattle.sd_safety.specs.invariant.Invariant.{Invariant, AtEach}
use Rattle.sd_safety.specs.invariant.Guarded.{AreGuarded, IsSteady}
use Rattle.sd_safety.specs.invariant.Coming.{IsNextEvent}
use Rattle.sd_safety.proofs.invariant.Prefix.{clean_before}
use Rattle.sd_safety.proofs.invariant.Sides.{not_both}
use Rattle.sd_safety.specs.messages.Moments.{whole, behind, Moment, upto, IsIn, IsBefore, Accepts, entering, following}
use Rattle.sd_safety.specs.messages.Traces.{Trace, begins, goes_on}
use Rattle.sd_safety.proofs.messages.Tails.{rest_of}
use Rattle.sd_safety.proofs.messages.Sending.{sends_own}
use Rattle.sd_safety.proofs.silences.Phases.{era_grows, open_at, fails_among, failed_on}
use Rattle.sd_safety.proofs.silences.RootIsSource.{emission_keeps}
use Rattle.sd_safety.proofs.windows.Senders.{called_is_up}
use Rattle.sd_safety.proofs.moves.Ahead.{IsAhead, always_ahead}
use Rattle.sd_safety.proofs.receipts.Stood.{epoch_is}
use Rattle.sd_safety.proofs.entering.Stages.{Stage, stage}
use Rattle.sd_safety.proofs.spans.PathHears.{spared}

same_between : (a b c : ℕ) → a ≤ b → b ≤ c → c ≤ a → b ≡ c
same_between a b c one two three = omega (arith, one, two, three)

module _ (setting : Setting) (x : Event) (h : List Event) (fair : AreGuarded setting) (clean : IsSteady setting (x ∷ h))
    (each : AtEach (Invariant setting) (chronicle setting (x ∷ h))) where
  abbrev steps : List Step
  steps = chronicle setting (x ∷ h)

  -- an old device that failed not with a device's call
  by_old : (q : Moment) (st : Stage setting q) (z : ℕ) → is_old (chronicle setting st.h) z ≡ true → device_failed_now (chronicle setting st.h) z ≡ false
  by_old q st z old = go st.h st.e st.comes old
    where
      go : (hs : List Event) (e : Event) → IsNextEvent setting hs e → is_old (chronicle setting hs) z ≡ true
          → device_failed_now (chronicle setting hs) z ≡ false
      go [] e comes old' = refl
      go (y ∷ hs) e comes old' = (spared setting y hs e comes z old').self

  -- who is called while it is of the era's plan, after an event of the era, did not fail in it
  module _ (q : Moment) (here : IsIn q (chronicle setting (x ∷ h))) (g : Moment) (after : IsBefore g q) (late : era (chronicle setting (x ∷ h)) ≤ era g.earlier)
      (z : ℕ) (call : Call) (past : Past)
      (there : past_in q.earlier z ≡ Some past) (act : q.step.act ≡ Calls z call) where
    st : Stage setting q
    st = stage setting fair q h x clean each.0 here

    earlier_is : q.earlier ≡ chronicle setting st.h
    earlier_is = ap (λ (p : Moment). p.earlier) st.is

    first_era : era g.earlier ≤ era (upto g)
    first_era = era_grows g.earlier (upto g) (behind whole)

    then_era : era (upto g) ≤ era q.earlier
    then_era = era_grows (upto g) q.earlier after

    last_era : era q.earlier ≤ era (chronicle setting (x ∷ h))
    last_era = era_grows q.earlier steps (rest_of here)

    number : era (chronicle setting st.h) ≡ era (chronicle setting (x ∷ h))
    number =
        sym (ap era earlier_is) ∙ same_between (era (upto g)) (era q.earlier) (era steps) then_era last_era (let a = late in let b = first_era in
        omega (arith, a, b))

    there_then : past_in (chronicle setting st.h) z ≡ Some past
    there_then = subst (λ l. past_in l z ≡ Some past) earlier_is there

    up : is_up (seen_of (chronicle setting st.h)) z ≡ true
    up = (called_is_up setting (chronicle setting st.h) z call st.e st.comes.clean.is.1 (sym (ap (λ (p : Moment). p.step.act) st.is) ∙ act)).up

    old_then : epoch_now past ≡ era (chronicle setting (x ∷ h)) → is_old (chronicle setting st.h) z ≡ true
    old_then own =
        ap (λ o. same_number o (era (chronicle setting st.h))) (epoch_is setting st.h z past up there_then)
        ∙ eq-eqb (epoch_now past) (era (chronicle setting st.h)) (own ∙ sym number)

    pub unfailed_by : epoch_now past ≡ era (chronicle setting (x ∷ h)) → device_failed_now q.earlier z ≡ false
    unfailed_by own = subst (λ l. device_failed_now l z ≡ false) (sym earlier_is) (by_old q st z (old_then own))

    entered_never : (duty : Duty) → given_now past ≡ Some duty → duty.epoch ≡ era (chronicle setting (x ∷ h)) → ⊥
    entered_never duty given of_era =
        let ahead : IsAhead setting (chronicle setting st.h) z past duty =
        always_ahead setting st.h st.comes.fair (clean_before setting st.e st.h st.comes.clean) st.comes.before z past up there_then duty given in
        next_not (era (chronicle setting st.h)) (era steps) number (sym ahead.number ∙ of_era)
      where
        next_not : (a b : ℕ) → a ≡ b → a + 1 ≡ b → ⊥
        next_not a b same next = omega (arith, same, next)

    pub ahead_not : (m : Message) (edge : Edge) → m.epoch ≡ era (chronicle setting (x ∷ h)) → Accepts past m edge
        → epoch_now past ≡ era (chronicle setting (x ∷ h))
    ahead_not m edge of_era (following epoch parent newer) = epoch ∙ of_era
    ahead_not m edge of_era (entering duty given epoch primary) = absurd (entered_never duty given (epoch ∙ of_era))

    -- what it accepts of the era's plan is newer than what it has seen
    pub newer_then : (m : Message) (edge : Edge) → m.epoch ≡ era (chronicle setting (x ∷ h)) → Accepts past m edge → is_newer m.stamp (stamp_now past) ≡ true
    newer_then m edge of_era (following epoch parent newer) = newer
    newer_then m edge of_era (entering duty given epoch primary) = absurd (entered_never duty given (epoch ∙ of_era))

  -- so who sends a message of the era's plan in the era has not failed in it by then
  pub sender_unfailed : (stamp : Stamp) (first : Moment) (source : ℕ) (g q : Moment) → IsIn q (chronicle setting (x ∷ h)) → IsBefore g q
      → era (chronicle setting (x ∷ h)) ≤ era g.earlier → (m z : ℕ)
      → Trace setting stamp (era (chronicle setting (x ∷ h))) first source m q z → device_failed_now q.earlier z ≡ false
  sender_unfailed stamp first source g q here after late zero z (begins message emits carries epoch_is) =
      let s = emits.sends in
      unfailed_by q here g after late z s.call s.past s.there s.act
      (sym ((sends_own s.past s.call message s.effect).1 ∙ emission_keeps s.past s.call emits.emission) ∙ epoch_is)
  sender_unfailed stamp first source g q here after late (suc m) z (goes_on trace hop) =
      let r = hop.receipt in
      unfailed_by q here g after late z (Receive hop.flight.link hop.flight.message r.counter) r.past r.there r.act
      (ahead_not q here g after late z (Receive hop.flight.link hop.flight.message r.counter) r.past r.there r.act hop.flight.message r.edge hop.epoch_is
      r.accepts)

  -- and did not fail with an event before
  pub sender_spared : (stamp : Stamp) (first : Moment) (source : ℕ) (g q : Moment) → IsIn q (chronicle setting (x ∷ h)) → IsBefore g q
      → era (chronicle setting (x ∷ h)) ≤ era g.earlier → (m z : ℕ)
      → Trace setting stamp (era (chronicle setting (x ∷ h))) first source m q z → fails (thing.Device z) g.step.seen.event ≡ false
  sender_spared stamp first source g q here after late m z trace =
      false_from_ne_true (fails (thing.Device z) g.step.seen.event)
      (λ is.
      let one : era g.earlier ≤ era (upto g) = era_grows g.earlier (upto g) (behind whole) in
      let two : era (upto g) ≤ era q.earlier = era_grows (upto g) q.earlier after in
      let three : era q.earlier ≤ era steps = era_grows q.earlier steps (rest_of here) in
      not_both (device_failed_now q.earlier z)
      (failed_on (thing.Device z) (upto g) q.earlier after (omega (arith, late, one, three))
      (fails_among g.step g.earlier (thing.Device z) (open_at g.step g.earlier (omega (arith, late, two, three))) is))
      (sender_unfailed stamp first source g q here after late m z trace))
