-- From its takeover on the backup root is a source: it sent at most P ago, nothing breaks its acting, its rounds are of the era's plan, and none emits a newer
-- term.
use Rattle.std.specs.Prelude.{◌≡◌, ℕ, ◌+◌, ◌-◌, ◌<◌, ◌≤◌, true, false, List, ◌∷◌, Option, Some}
use Rattle.std.proofs.Common.{arith, ◌∙◌, ap, sym, subst}
use Rattle.std.proofs.lemmas.Bool.{false_from_ne_true}
use Rattle.sd_num.specs.Lists.{map_or}
use Rattle.sd_plan.specs.declared.Duty.{Duty}
use Rattle.sd_device.specs.declared.msg.Message.{Message}
use Rattle.sd_checker.specs.check_root.Timing.{round_gap}
use Rattle.sd_device.specs.Calls.{Call, Past}
use Rattle.sd_device.specs.Words.{transition_of, after as past_after, is_acting, epoch_now, stamp_now}
use Rattle.sd_sched.specs.declared.Event.{Event}
use Rattle.sd_sched.specs.Events.{reference_of}
use Rattle.sd_history.specs.World.{Setting, makes}
use Rattle.sd_history.specs.Steps.{Calls, Step, seen_of, acts_in}
use Rattle.sd_history.specs.Chronicle.{past_in, chronicle, next_step}
use Rattle.sd_history.proofs.Given.{some_is}
use Rattle.sd_safety.proofs.invariant.Parts.{premises_of}
use Rattle.sd_safety.specs.invariant.Eras.{era, plan_now, is_old, sent_at}
use Rattle.sd_safety.specs.invariant.Coming.{IsNextEvent}
use Rattle.sd_safety.proofs.invariant.Sides.{not_both}
use Rattle.sd_safety.specs.messages.Moments.{Tail, behind, Moment, upto, when, IsIn, IsBefore, Emits}
use Rattle.sd_safety.specs.messages.Rounds.{IsUnbroken, AreApart}
use Rattle.sd_safety.specs.messages.Stamping.{EntersNot, enters, remakes}
use Rattle.sd_safety.proofs.messages.Tails.{tail_trans, rest_of}
use Rattle.sd_safety.proofs.messages.Sending.{sends_own}
use Rattle.sd_safety.proofs.messages.Acting.{Acting, acts_on}
use Rattle.sd_safety.proofs.messages.Origins.{Since, past_goes}
use Rattle.sd_safety.proofs.messages.Overlap.{IsApart, apart_by_rule}
use Rattle.sd_safety.proofs.messages.Consecutive.{emission_acts, past_after_call}
use Rattle.sd_safety.specs.timers.Times.{AreTimed}
use Rattle.sd_safety.proofs.timers.Histories.{before}
use Rattle.sd_safety.proofs.waits.Waits.{Stands, old_stands, root_sends}
use Rattle.sd_safety.proofs.waits.Standing.{times, sound, steps_timed}
use Rattle.sd_safety.specs.silences.Feeds.{IsSource}
use Rattle.sd_safety.proofs.silences.NoMaking.{not_made, remakes_is}
use Rattle.sd_safety.proofs.silences.Spacing.{emissions_are_apart}
use Rattle.sd_safety.proofs.silences.RootIsSource.{entered_still, emission_keeps}
use Rattle.sd_safety.proofs.silences.Phases.{Following, following, Known}
use Rattle.sd_safety.proofs.silences.SoundWays.{top_of}
use Rattle.sd_safety.proofs.terms.Actors.{IsActor}
use Rattle.sd_safety.proofs.terms.Terms.{IsTermed, termed}
use Rattle.sd_safety.proofs.spans.PathHears.{IsSpared, spared}
use Rattle.sd_safety.proofs.takeovers.Places.{took, all_chronicle, stood, acted_then, after, actor_now, clean_now, known_since}
use Rattle.sd_safety.proofs.timers.Emissions.{timed_tail}

module _ (setting : Setting) (x : Event) (h : List Event) (e : Event) (comes : IsNextEvent setting (x ∷ h) e)
    (old : is_old (chronicle setting (x ∷ h)) (plan_now setting (chronicle setting (x ∷ h))).backup_root ≡ true)
    (acts : acts_in (chronicle setting (x ∷ h)) (plan_now setting (chronicle setting (x ∷ h))).backup_root ≡ true) where
  abbrev steps : List Step
  steps = chronicle setting (x ∷ h)

  abbrev b : ℕ
  b = (plan_now setting (chronicle setting (x ∷ h))).backup_root

  abbrev start : Moment
  start = (took setting x h e comes old acts).moment

  -- the backup root before an event: its past, of the era's plan
  record PastAt (q : Moment) : Type 0 where
    past : Past
    there : past_in q.earlier b ≡ Some past
    acts_is : acts_in q.earlier b ≡ is_acting past
    epoch : epoch_now past ≡ era steps
    soon : acts_in q.earlier b ≡ true → when q ≤ sent_at q.earlier b + round_gap setting.net
    made_not : makes b q.step.seen.event ≡ false

  past_at : (q : Moment) → IsIn q (chronicle setting (e ∷ x ∷ h)) → IsIn start (upto q) → PastAt q
  past_at q here since = by (known_since setting x h e comes old acts q here since)
    where
      by_gap : (r s p : ℕ) → r - s ≤ p → r ≤ s + p
      by_gap r s p le = omega (arith, le)

      by : Known setting (chronicle setting (x ∷ h)) q → PastAt q
      by k =
          let older : List Step = chronicle setting (k.x ∷ k.h) in
          let is : q.earlier ≡ older = ap (λ (p : Moment). p.earlier) k.is in
          let old' : is_old older b ≡ true = subst (λ l. is_old l b ≡ true) is (stood setting x h e comes old acts q here since).1 in
          let s : Stands setting older b = old_stands setting (k.x ∷ k.h) b old' in
          let own : IsSpared setting older b = spared setting k.x k.h k.e k.comes b old' in
          record {
            past = s.past;
            there = subst (λ l. past_in l b ≡ Some s.past) (sym is) s.there;
            acts_is = subst (λ l. acts_in l b ≡ is_acting s.past) (sym is) s.acts_is;
            epoch = ap (λ (o : Option Duty). map_or o 0 (λ u. u.epoch)) s.duty ∙ k.same;
            soon =
                subst (λ (p : Moment). acts_in p.earlier b ≡ true → when p ≤ sent_at p.earlier b + round_gap setting.net) (sym k.is)
                (λ acting. by_gap (reference_of k.e) (sent_at older b) (round_gap setting.net)
                (root_sends setting k.e (k.x ∷ k.h) b (times setting k.x k.h k.e k.comes) old' own.member acting));
            made_not = subst (λ (p : Moment). makes b p.step.seen.event ≡ false) (sym k.is) (not_made setting older k.e b k.comes.clean.is.1 own.up own.member);
          }

  -- it enters no plan by a receipt
  enters_not : (q : Moment) → IsIn q (chronicle setting (x ∷ h)) → IsIn start (upto q) → (past : Past) (call : Call) → q.step.act ≡ Calls b call
      → past_in q.earlier b ≡ Some past → EntersNot past call
  enters_not q here since past call act there =
      false_from_ne_true (enters (transition_of past call))
      (λ is.
      let f : Following q (top_of setting (x ∷ h) e) = following q (next_step setting steps e) steps here in
      let t : IsBefore start f.moment = subst (λ l. Tail (upto start) l) (sym f.earlier_is) since in
      let r : PastAt f.moment = past_at f.moment f.is_in (behind t) in
      let same : r.past ≡ past_after past call =
      some_is (sym (subst (λ l. past_in l b ≡ Some r.past) f.earlier_is r.there) ∙ past_after_call q b call past act there) in
      let acting : is_acting r.past ≡ true = sym r.acts_is ∙ acted_then setting x h e comes old acts f.moment f.is_in t in
      not_both (is_acting (past_after past call)) (subst (λ p. is_acting p ≡ true) same acting) (entered_still past call is))

  stays_at : (q : Moment) → IsIn q (chronicle setting (x ∷ h)) → IsIn start (upto q)
      → (makes b q.step.seen.event ≡ false) × (remakes b q.step.act ≡ false)
      × ((past : Past) (call : Call) → q.step.act ≡ Calls b call → past_in q.earlier b ≡ Some past → EntersNot past call)
  stays_at q here since =
      let r : PastAt q = past_at q (behind here) since in
      let t : AreTimed setting (upto q) = timed_tail setting (upto q) steps here (steps_timed setting x h e comes) in
      (r.made_not, remakes_is b q.step.act ∙ sym (t.1.fits.makes_it b) ∙ r.made_not, enters_not q here since)

  -- nothing breaks its acting
  pub unbroken_since : (a c : Moment) → IsIn start (upto a) → IsIn c (chronicle setting (x ∷ h)) → IsUnbroken a c b
  unbroken_since a c since c_in r r_in t = let kept = stays_at r (tail_trans r_in (rest_of c_in)) (behind (tail_trans since t)) in (kept.1, kept.2)

  pub source : (s0 : ℕ) → when start ≤ s0 → IsSource setting (top_of setting (x ∷ h) e) b s0
  source s0 from =
      record {
        chronicle_ = all_chronicle setting x h e comes old acts;
        renew = (premises_of setting (seen_of (chronicle setting (e ∷ x ∷ h))) comes.clean.premises).renew;
        soon = λ q here late. let t = later q here late in (past_at q here (behind t)).soon (acted_then setting x h e comes old acts q here t);
        stays = λ q here late. stays_at q here (behind (later q (behind here) late));
      }
    where
      later : (q : Moment) → IsIn q (chronicle setting (e ∷ x ∷ h)) → s0 < when q → IsBefore start q
      later q here late = after setting x h e comes old acts q here (omega (arith, from, late))

  pub spacing : AreApart setting (chronicle setting (x ∷ h))
  spacing = emissions_are_apart setting (x ∷ h) (before setting e (x ∷ h) (times setting x h e comes))

  pub rule : IsApart setting.net
  rule = apart_by_rule setting.net (plan_now setting steps) (sound setting x h e comes).guarded.timing

  pub terms : IsTermed setting (chronicle setting (x ∷ h))
  terms = termed setting (x ∷ h) comes.fair (clean_now setting x h e comes old acts) comes.before

  -- what it emits is of the era's plan
  pub emits_in_era : (p : Moment) → IsIn p (chronicle setting (x ∷ h)) → IsIn start (upto p) → (m : Message) → Emits p b m
      → m.epoch ≡ era (chronicle setting (x ∷ h))
  emits_in_era p here since m emits =
      let s = emits.sends in
      let r : PastAt p = past_at p (behind here) since in
      (sends_own s.past s.call m s.effect).1 ∙ emission_keeps s.past s.call emits.emission ∙ ap epoch_now (some_is (sym s.there ∙ r.there)) ∙ r.epoch

  -- and none is of a newer term
  pub newest : (p : Moment) → IsIn p (chronicle setting (x ∷ h)) → IsIn start (upto p) → (m : Message) → Emits p b m → (q : Moment)
      → IsIn q (chronicle setting (x ∷ h)) → (y : ℕ) (n : Message) → Emits q y n → n.stamp.term ≤ m.stamp.term
  newest p here since m emits q q_in y n two =
      let s = emits.sends in
      let actor : IsActor setting steps b = actor_now setting x h e comes old acts in
      let goes : Since EntersNot (past_after s.past s.call) (past_in steps b) =
      past_goes EntersNot (upto p) steps b (past_after s.past s.call) here (past_after_call p b s.call s.past s.act s.there) (λ r r_in t. let kept =
      stays_at r r_in (behind (tail_trans since t)) in (kept.1, kept.2)) in
      let on : Acting (past_after s.past s.call) goes.past =
      acts_on (past_after s.past s.call) goes.past (emission_acts s.past s.call emits.emission) goes.on in
      let term : (stamp_now actor.past).term ≡ m.stamp.term =
      ap (λ z. (stamp_now z).term) (some_is (sym actor.there ∙ goes.is)) ∙ on.term ∙ ap (λ z. z.term) (sym (sends_own s.past s.call m s.effect).0) in
      subst (λ t. n.stamp.term ≤ t) term (terms.top b actor q q_in y n two)
