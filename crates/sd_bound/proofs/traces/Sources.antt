-- A device that acts at each event later than a reference feeds others from then on: it sent at most P ago, nothing breaks its acting, what it emits is of
-- the plan, and none emits a newer term.
use Rattle.std.specs.Prelude.{◌≡◌, ℕ, ◌+◌, ◌<◌, ◌≤◌, true, false, List, ◌∷◌, Option, Some}
use Rattle.std.proofs.Common.{arith, ap, sym, ◌∙◌, subst, inl}
use Rattle.std.proofs.lemmas.Bool.{false_from_ne_true}
use Rattle.sd_num.specs.Lists.{map_or}
use Rattle.sd_plan.specs.declared.Duty.{Duty}
use Rattle.sd_plan.specs.Plans.{is_member}
use Rattle.sd_device.specs.declared.msg.Message.{Message}
use Rattle.sd_checker.specs.check_root.Timing.{round_gap}
use Rattle.sd_device.specs.Calls.{Call, Past}
use Rattle.sd_device.specs.Words.{transition_of, after as past_after, is_acting, epoch_now, stamp_now}
use Rattle.sd_sched.specs.declared.Event.{Event}
use Rattle.sd_sched.specs.Events.{reference_of}
use Rattle.sd_history.specs.World.{Setting, makes, plan_numbered}
use Rattle.sd_history.specs.Steps.{Calls, Step, seen_of, acts_in}
use Rattle.sd_history.specs.Chronicle.{past_in, chronicle, next_step}
use Rattle.sd_history.proofs.Given.{some_is}
use Rattle.sd_safety.proofs.invariant.Parts.{AllButStart, premises_of}
use Rattle.sd_safety.specs.invariant.Eras.{era, failed_now, sent_at}
use Rattle.sd_safety.proofs.invariant.Sides.{not_both}
use Rattle.sd_safety.specs.messages.Moments.{Tail, whole, behind, Moment, upto, when, IsIn, IsBefore, Emits}
use Rattle.sd_safety.specs.messages.Stamping.{EntersNot, enters, remakes}
use Rattle.sd_safety.proofs.messages.Tails.{tail_chronicle, before_is_earlier}
use Rattle.sd_safety.proofs.messages.Sending.{sends_own}
use Rattle.sd_safety.proofs.messages.Acting.{Acting, acts_on}
use Rattle.sd_safety.proofs.messages.Origins.{Since, past_goes}
use Rattle.sd_safety.proofs.messages.Overlap.{apart_by_rule}
use Rattle.sd_safety.proofs.messages.Consecutive.{emission_acts, past_after_call}
use Rattle.sd_safety.specs.timers.Times.{AreTimed}
use Rattle.sd_safety.proofs.timers.Histories.{before}
use Rattle.sd_safety.proofs.waits.Waits.{root_sends}
use Rattle.sd_safety.proofs.waits.Standing.{times, sound, steps_timed, clean}
use Rattle.sd_safety.specs.silences.Feeds.{Feeds}
use Rattle.sd_safety.proofs.silences.NoMaking.{remakes_is}
use Rattle.sd_safety.proofs.silences.Spacing.{emissions_are_apart}
use Rattle.sd_safety.proofs.silences.RootIsSource.{entered_still, emission_keeps}
use Rattle.sd_safety.proofs.silences.Phases.{Following, following}
use Rattle.sd_safety.proofs.silences.SoundWays.{top_of}
use Rattle.sd_safety.proofs.terms.Actors.{IsActor}
use Rattle.sd_safety.proofs.terms.Terms.{IsTermed, termed}
use Rattle.sd_safety.proofs.timers.Emissions.{timed_tail}
use Rattle.sd_bound.specs.timeouts.Settled.{IsSettled, IsSoundMember, Place, Scene}
use Rattle.sd_bound.proofs.timeouts.Settled.{era_is, all_chronicle, StageAt, stage_at}
use Rattle.sd_bound.proofs.timeouts.Scenes.{old_now, scene_at, by_silence}
use Rattle.sd_bound.specs.traces.Led.{ActsSince}

module _ (setting : Setting) (epoch : ℕ) (x : Event) (h : List Event) (e : Event) (calm : ℕ) (settled : IsSettled setting epoch (x ∷ h) e calm) (s0 : ℕ) (from : calm ≤ s0)
    (y : ℕ) (well : IsSoundMember setting epoch (failed_now (chronicle setting (x ∷ h))) y)
    (acts : ActsSince (top_of setting (x ∷ h) e) s0 y) where
  abbrev steps : List Step
  steps = chronicle setting (x ∷ h)

  calm_before : (q : Moment) → s0 < when q → calm < when q
  calm_before q late = omega (arith, from, late)

  scene_then : (q : Moment) → IsIn q (chronicle setting (e ∷ x ∷ h)) → s0 < when q → Scene setting epoch (failed_now (chronicle setting (x ∷ h))) q
  scene_then q here late = scene_at setting epoch (x ∷ h) e calm settled q here (calm_before q late)

  soon_then : (q : Moment) → IsIn q (chronicle setting (e ∷ x ∷ h)) → s0 < when q → when q ≤ sent_at q.earlier y + round_gap setting.net
  soon_then q here late =
      let st : StageAt setting epoch calm (chronicle setting (x ∷ h)) q = stage_at setting epoch (x ∷ h) e calm settled q here (calm_before q late) in
      let well_ : IsSoundMember setting epoch (failed_now (chronicle setting (st.x ∷ st.h))) y = subst (λ failed. IsSoundMember setting epoch failed y) (sym st.failed) well in
      let acting : acts_in (chronicle setting (st.x ∷ st.h)) y ≡ true = subst (λ (p : Moment). acts_in p.earlier y ≡ true) st.is (acts q here late) in
      let member : is_member (plan_numbered setting (era (chronicle setting (st.x ∷ st.h)))) y ≡ true =
      subst (λ n. is_member (plan_numbered setting n) y ≡ true) (sym (era_is setting epoch (st.x ∷ st.h) st.e calm st.settled)) well.member in
      subst (λ (p : Moment). when p ≤ sent_at p.earlier y + round_gap setting.net) (sym st.is)
      (by_silence (reference_of st.e) (sent_at (chronicle setting (st.x ∷ st.h)) y) (round_gap setting.net)
      (root_sends setting st.e (st.x ∷ st.h) y (times setting st.x st.h st.e st.settled.comes)
      (old_now setting epoch st.x st.h st.e calm st.settled.way st.late y well_) member acting))

  -- the moment after one
  after_then : (q : Moment) → IsIn q (chronicle setting (x ∷ h)) → s0 < when q → (past : Past) → past_in (upto q) y ≡ Some past → is_acting past ≡ true
  after_then q here late past there =
      let f : Following q (top_of setting (x ∷ h) e) = following q (next_step setting steps e) steps here in
      let t : IsBefore q f.moment = subst (λ l. Tail (upto q) l) (sym f.earlier_is) whole in
      let goes : when q ≤ when f.moment =
      before_is_earlier setting q f.moment (tail_chronicle setting f.is_in (all_chronicle setting epoch (x ∷ h) e calm settled)) t in
      let after_late : s0 < when f.moment = omega (arith, late, goes) in
      let p : Place setting epoch f.moment y = (scene_then f.moment f.is_in after_late).place y well in
      ap is_acting (some_is (sym there ∙ sym (ap (λ l. past_in l y) f.earlier_is) ∙ p.there)) ∙ sym p.acts_is ∙ acts f.moment f.is_in after_late

  stays_then : (q : Moment) → IsIn q (chronicle setting (x ∷ h)) → s0 < when q
      → (makes y q.step.seen.event ≡ false) × (remakes y q.step.act ≡ false)
      × ((past : Past) (call : Call) → q.step.act ≡ Calls y call → past_in q.earlier y ≡ Some past → EntersNot past call)
  stays_then q here late =
      let none : makes y q.step.seen.event ≡ false = (scene_then q (behind here) late).unmade y well in
      let t : AreTimed setting (upto q) = timed_tail setting (upto q) steps here (steps_timed setting x h e settled.comes) in (
        none,
        remakes_is y q.step.act ∙ sym (t.1.fits.makes_it y) ∙ none,
        λ past call act there.
            false_from_ne_true (enters (transition_of past call))
            (λ is. not_both (is_acting (past_after past call)) (after_then q here late (past_after past call) (past_after_call q y call past act there))
            (entered_still past call is)),
      )

  epoch_then : (q : Moment) → IsIn q (chronicle setting (e ∷ x ∷ h)) → s0 < when q → (past : Past) → past_in q.earlier y ≡ Some past → epoch_now past ≡ epoch
  epoch_then q here late past there =
      let p : Place setting epoch q y = (scene_then q here late).place y well in
      ap epoch_now (some_is (sym there ∙ p.there)) ∙ ap (λ (o : Option Duty). map_or o 0 (λ (u : Duty). u.epoch)) p.duty

  terms : IsTermed setting (chronicle setting (x ∷ h))
  terms = termed setting (x ∷ h) settled.comes.fair (clean setting x h e settled.comes) settled.comes.before

  newest : (p : Moment) → IsIn p (chronicle setting (x ∷ h)) → s0 < when p → (m : Message) → Emits p y m → (q : Moment) → IsIn q (chronicle setting (x ∷ h))
      → (z : ℕ) (n : Message) → Emits q z n → n.stamp.term ≤ m.stamp.term
  newest p here late m emits q q_in z n two =
      let s = emits.sends in
      let goes : when p ≤ reference_of e = before_is_earlier setting p (top_of setting (x ∷ h) e) (all_chronicle setting epoch (x ∷ h) e calm settled) here in
      let top_late : s0 < reference_of e = omega (arith, late, goes) in
      let place : Place setting epoch (top_of setting (x ∷ h) e) y = (scene_then (top_of setting (x ∷ h) e) whole top_late).place y well in
      let actor : IsActor setting (chronicle setting (x ∷ h)) y =
      record { past = place.past; up = place.up; there = place.there; acts = sym place.acts_is ∙ acts (top_of setting (x ∷ h) e) whole top_late } in
      let since : Since EntersNot (past_after s.past s.call) (past_in steps y) =
      past_goes EntersNot (upto p) steps y (past_after s.past s.call) here (past_after_call p y s.call s.past s.act s.there) (λ r r_in t. let kept =
      stays_then r r_in (later r r_in t) in (kept.1, kept.2)) in
      let on : Acting (past_after s.past s.call) since.past =
      acts_on (past_after s.past s.call) since.past (emission_acts s.past s.call emits.emission) since.on in
      let term : (stamp_now actor.past).term ≡ m.stamp.term =
      ap (λ k. (stamp_now k).term) (some_is (sym actor.there ∙ since.is)) ∙ on.term ∙ ap (λ k. k.term) (sym (sends_own s.past s.call m s.effect).0) in
      subst (λ t. n.stamp.term ≤ t) term (terms.top y actor q q_in z n two)
    where
      later : (r : Moment) → IsIn r (chronicle setting (x ∷ h)) → IsBefore p r → s0 < when r
      later r r_in t = let goes = before_is_earlier setting p r (tail_chronicle setting (behind r_in) (all_chronicle setting epoch (x ∷ h) e calm settled)) t in
          omega (arith, late, goes)

  pub feeds : Feeds setting (top_of setting (x ∷ h) e) y s0 epoch
  feeds =
      let premises : AllButStart setting (seen_of (chronicle setting (e ∷ x ∷ h))) =
      premises_of setting (seen_of (chronicle setting (e ∷ x ∷ h))) settled.comes.clean.premises in
      record {
        source = record { chronicle_ = all_chronicle setting epoch (x ∷ h) e calm settled; renew = premises.renew; soon = soon_then; stays = stays_then };
        delay = premises.delay;
        loss = premises.loss;
        life = terms.life;
        spacing = emissions_are_apart setting (x ∷ h) (before setting e (x ∷ h) (times setting x h e settled.comes));
        rule = apart_by_rule setting.net (plan_numbered setting (era (chronicle setting (x ∷ h)))) (sound setting x h e settled.comes).guarded.timing;
        epoch_is = λ p here late m emits.
            let s = emits.sends in
            (sends_own s.past s.call m s.effect).1 ∙ emission_keeps s.past s.call emits.emission ∙ epoch_then p (behind here) late s.past s.there;
        newest = λ p here late m emits q q_in z n two own. newest p here late m emits q q_in z n two;
        current = λ q here late. inl (sym (settled.way.same q (behind here) (calm_before q late)));
      }
