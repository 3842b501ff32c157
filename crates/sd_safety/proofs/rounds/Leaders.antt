-- A device that leads from a reference on, the root or the backup root: it is a source; whoever emits is it; and none emits a newer term than it does.
use Rattle.std.specs.Prelude.{◌≡◌, ℕ, ◌+◌, ◌<◌, ◌≤◌, Bool, true, false, List, ◌∷◌, Some, refl, ◌⊎◌}
use Rattle.std.proofs.Common.{arith, sym, ◌∙◌, ap, subst, inl, inr}
use Rattle.std.proofs.lemmas.Bool.{or_left, eqb-true, false_from_ne_true}
use Rattle.std.proofs.Math.Nat.{le_of_eq}
use Rattle.sd_num.specs.Lists.{same_number}
use Rattle.sd_plan.specs.Plans.{is_member}
use Rattle.sd_device.specs.declared.msg.Message.{Message}
use Rattle.sd_checker.specs.check_root.Timing.{round_gap}
use Rattle.sd_device.specs.Calls.{Call, Past}
use Rattle.sd_device.specs.Words.{transition_of, after, is_acting, epoch_now, stamp_now}
use Rattle.sd_sched.specs.declared.Event.{Event}
use Rattle.sd_sched.specs.Events.{reference_of}
use Rattle.sd_history.specs.World.{Setting, makes, is_up, has_commit, is_staged_member}
use Rattle.sd_history.specs.Steps.{Calls, Step, seen_of, acts_in, epoch_in}
use Rattle.sd_history.specs.Chronicle.{past_in, chronicle, next_step}
use Rattle.sd_history.proofs.Given.{some_is}
use Rattle.sd_safety.proofs.invariant.Parts.{premises_of}
use Rattle.sd_safety.specs.invariant.Eras.{era, plan_now, is_old, is_new, sent_at}
use Rattle.sd_safety.specs.invariant.Clauses.{staged_root}
use Rattle.sd_safety.specs.invariant.Invariant.{Invariant, AtEach}
use Rattle.sd_safety.specs.invariant.Guarded.{IsSteady}
use Rattle.sd_safety.proofs.invariant.Prefix.{clean_before}
use Rattle.sd_safety.proofs.invariant.Sides.{not_both}
use Rattle.sd_safety.specs.messages.Moments.{Tail, whole, behind, IsChronicle, Moment, upto, when, IsIn, Emits}
use Rattle.sd_safety.specs.messages.Rounds.{IsUnbroken, AreApart}
use Rattle.sd_safety.specs.messages.Stamping.{EntersNot, enters, remakes}
use Rattle.sd_safety.proofs.messages.Tails.{Order, before as comes_before, same as are_same, after as comes_after, ordered, tail_chronicle, history_chronicle, before_is_earlier}
use Rattle.sd_safety.proofs.messages.Sending.{sends_own}
use Rattle.sd_safety.proofs.messages.Overlap.{IsApart, apart_by_rule}
use Rattle.sd_safety.proofs.messages.Consecutive.{emission_acts, past_after_call, rounds_apart}
use Rattle.sd_safety.specs.timers.Times.{AreTimed}
use Rattle.sd_safety.proofs.timers.Histories.{Timely, timed, before, sends_soon}
use Rattle.sd_safety.proofs.waits.SameReferences.{sent_is}
use Rattle.sd_safety.proofs.waits.Standing.{times, sound, steps_timed}
use Rattle.sd_safety.specs.silences.Feeds.{IsSource}
use Rattle.sd_safety.proofs.silences.Phases.{Following, following}
use Rattle.sd_safety.proofs.silences.Rounds.{unbroken}
use Rattle.sd_safety.proofs.silences.NoMaking.{remakes_is, not_made}
use Rattle.sd_safety.proofs.silences.Spacing.{emissions_are_apart}
use Rattle.sd_safety.proofs.silences.FirstEra.{emitter_up}
use Rattle.sd_safety.proofs.silences.SoundWays.{top_of}
use Rattle.sd_safety.proofs.silences.RootIsSource.{entered_still, emission_keeps}
use Rattle.sd_safety.proofs.windows.Acting.{not_new}
use Rattle.sd_safety.proofs.windows.Committing.{ActingPast, acting_past, up_and_past}
use Rattle.sd_safety.proofs.receipts.Stood.{epoch_is}
use Rattle.sd_safety.proofs.terms.Actors.{IsActor, one_actor, actor_is_current, actor_is_new, committed_actor}
use Rattle.sd_safety.proofs.terms.Terms.{IsTermed, termed}
use Rattle.sd_safety.specs.rounds.Spans.{IsSpan}
use Rattle.sd_safety.proofs.rounds.Places.{InEra}
use Rattle.sd_safety.proofs.timers.Emissions.{timed_tail}

-- before the event of a moment it acts, sent at most P ago, and is of the era's plan, or after a commit of the staged one
pub record LeadsAt (setting : Setting) (steps : List Step) (a : ℕ) (q : Moment) : Type 0 where
  pub then_ : List Event
  pub is : q.earlier ≡ chronicle setting then_
  pub clean : IsSteady setting then_
  pub each : AtEach (Invariant setting) (chronicle setting then_)
  pub actor : IsActor setting (chronicle setting then_) a
  pub soon : when q ≤ sent_at q.earlier a + round_gap setting.net
  pub made_not : makes a q.step.seen.event ≡ false
  pub epoch : ((epoch_now actor.past ≡ era steps) × (has_commit (seen_of q.earlier) ≡ true → era q.earlier ≡ era steps → ⊥))
      ⊎ ((epoch_now actor.past ≡ era steps + 1) × (era q.earlier ≡ era steps) × (has_commit (seen_of q.earlier) ≡ true))

-- it leads at each moment of the span
pub record IsLeader (setting : Setting) (x : Event) (h : List Event) (e : Event) (s0 a : ℕ) : Type 0 where
  pub span : IsSpan setting x h e s0
  pub leads : (q : Moment) → IsIn q (chronicle setting (e ∷ x ∷ h)) → s0 < when q → LeadsAt setting (chronicle setting (x ∷ h)) a q

module _ (setting : Setting) (x : Event) (h : List Event) (e : Event) (s0 a : ℕ) (l : IsLeader setting x h e s0 a) where
  abbrev steps : List Step
  steps = chronicle setting (x ∷ h)

  all_chronicle : IsChronicle setting (chronicle setting (e ∷ x ∷ h))
  all_chronicle = history_chronicle setting (e ∷ x ∷ h) l.span.comes.clean.is

  there_at : (q : Moment) (r : LeadsAt setting (chronicle setting (x ∷ h)) a q) → past_in q.earlier a ≡ Some r.actor.past
  there_at q r = subst (λ older. past_in older a ≡ Some r.actor.past) (sym r.is) r.actor.there

  -- the moment after one of the span
  record Next (p : Moment) : Type 0 where
    moment : Moment
    is_in : IsIn moment (chronicle setting (e ∷ x ∷ h))
    earlier_is : moment.earlier ≡ upto p
    late : s0 < when moment

  next_of : (p : Moment) → IsIn p (chronicle setting (x ∷ h)) → s0 < when p → Next p
  next_of p here late =
      let f : Following p (top_of setting (x ∷ h) e) = following p (next_step setting steps e) steps here in
      let since : Tail (upto p) f.moment.earlier = subst (λ older. Tail (upto p) older) (sym f.earlier_is) whole in
      let goes : when p ≤ when f.moment = before_is_earlier setting p f.moment (tail_chronicle setting f.is_in all_chronicle) since in
      record { moment = f.moment; is_in = f.is_in; earlier_is = f.earlier_is; late = omega (arith, late, goes) }

  -- it enters no plan by a receipt
  enters_not : (q : Moment) → IsIn q (chronicle setting (x ∷ h)) → s0 < when q → (past : Past) (call : Call) → q.step.act ≡ Calls a call
      → past_in q.earlier a ≡ Some past → EntersNot past call
  enters_not q here late past call act there =
      false_from_ne_true (enters (transition_of past call))
      (λ is.
      let f : Next q = next_of q here late in
      let r : LeadsAt setting steps a f.moment = l.leads f.moment f.is_in f.late in
      let same : r.actor.past ≡ after past call =
      some_is (sym (subst (λ older. past_in older a ≡ Some r.actor.past) f.earlier_is (there_at f.moment r)) ∙ past_after_call q a call past act there) in
      not_both (is_acting (after past call)) (subst (λ p. is_acting p ≡ true) same r.actor.acts) (entered_still past call is))

  pub source : IsSource setting (top_of setting (x ∷ h) e) a s0
  source =
      record {
        chronicle_ = all_chronicle;
        renew = (premises_of setting (seen_of (chronicle setting (e ∷ x ∷ h))) l.span.comes.clean.premises).renew;
        soon = λ q here late. (l.leads q here late).soon;
        stays = λ q here late. let none = (l.leads q (behind here) late).made_not in (none, remakes_not q here none, enters_not q here late);
      }
    where
      remakes_not : (q : Moment) → IsIn q (chronicle setting (x ∷ h)) → makes a q.step.seen.event ≡ false → remakes a q.step.act ≡ false
      remakes_not q here none =
          let t : AreTimed setting (upto q) = timed_tail setting (upto q) steps here (steps_timed setting x h e l.span.comes) in
          remakes_is a q.step.act ∙ sym (t.1.fits.makes_it a) ∙ none

  pub spacing : AreApart setting (chronicle setting (x ∷ h))
  spacing = emissions_are_apart setting (x ∷ h) (before setting e (x ∷ h) (times setting x h e l.span.comes))

  pub rule : IsApart setting.net
  rule = apart_by_rule setting.net (plan_now setting steps) (sound setting x h e l.span.comes).guarded.timing

  pub one_life : (p q : Moment) → s0 < when p → IsIn q (chronicle setting (x ∷ h)) → IsUnbroken p q a
  one_life p q late q_in = unbroken setting (top_of setting (x ∷ h) e) a s0 source spacing rule p q late q_in

  -- who emits acts after it, as the leader does
  module _ (p : Moment) (here : IsIn p (chronicle setting (x ∷ h))) (late : s0 < when p) (y : ℕ) (m : Message) (emits : Emits p y m) where
    record Emitter : Type 0 where
      next : LeadsAt setting (chronicle setting (x ∷ h)) a (next_of p here late).moment
      is : chronicle setting next.then_ ≡ upto p
      actor : IsActor setting (chronicle setting next.then_) y
      own : m.stamp ≡ stamp_now actor.past

    emitter_of : Emitter
    emitter_of =
        let f : Next p = next_of p here late in
        let r : LeadsAt setting steps a f.moment = l.leads f.moment f.is_in f.late in
        let is_ : chronicle setting r.then_ ≡ upto p = sym r.is ∙ f.earlier_is in
        let s = emits.sends in
        record {
          next = r;
          is = is_;
          actor =
              record {
                past = after s.past s.call;
                up =
                    subst (λ older. is_up (seen_of older) y ≡ true) (sym is_)
                    (emitter_up setting p y m (tail_chronicle setting here all_chronicle.0)
                    (timed_tail setting (upto p) steps here (steps_timed setting x h e l.span.comes)) emits);
                there = subst (λ older. past_in older y ≡ Some (after s.past s.call)) (sym is_) (past_after_call p y s.call s.past s.act s.there);
                acts = emission_acts s.past s.call emits.emission;
              };
          own = (sends_own s.past s.call m s.effect).0;
        }

    pub emitter : y ≡ a
    emitter =
        let o : Emitter = emitter_of in
        one_actor setting o.next.then_ l.span.comes.fair o.next.clean o.next.each y a o.actor o.next.actor

    -- none before is of a newer term
    top_before : (q : Moment) → IsIn q (upto p) → (z : ℕ) (n : Message) → Emits q z n → n.stamp.term ≤ m.stamp.term
    top_before q inside z n two =
        let o : Emitter = emitter_of in
        let terms : IsTermed setting (chronicle setting o.next.then_) = termed setting o.next.then_ l.span.comes.fair o.next.clean o.next.each in
        subst (λ t. n.stamp.term ≤ t) (sym (ap (λ s. s.term) o.own)) (terms.top y o.actor q (subst (λ older. Tail (upto q) older) (sym o.is) inside) z n two)

  -- none is of a newer term than what it emits
  pub newest : (p : Moment) → IsIn p (chronicle setting (x ∷ h)) → s0 < when p → (m : Message) → Emits p a m → (q : Moment) → IsIn q (chronicle setting (x ∷ h))
      → (y : ℕ) (n : Message) → Emits q y n → n.stamp.term ≤ m.stamp.term
  newest p here late m emits q q_in y n two = by_order (ordered steps p q here q_in)
    where
      by_order : Order p q → n.stamp.term ≤ m.stamp.term
      by_order (comes_before t) =
          let goes : when p ≤ when q = before_is_earlier setting p q (tail_chronicle setting q_in all_chronicle.0) t in
          let by_leader : y ≡ a = emitter q q_in (omega (arith, late, goes)) y n two in
          le_of_eq (rounds_apart p q a m n emits (subst (λ z. Emits q z n) by_leader two) t (one_life p q late q_in)).0
      by_order (are_same equal) = top_before p here late a m emits q (subst (λ older. Tail older (upto p)) equal whole) y n two
      by_order (comes_after t) = top_before p here late a m emits q (behind t) y n two

  -- what it emits is of the era's plan, or after a commit of the staged one
  pub lead_epoch : (p : Moment) → IsIn p (chronicle setting (x ∷ h)) → s0 < when p → (m : Message) → Emits p a m
      → ((m.epoch ≡ era (chronicle setting (x ∷ h))) × (has_commit (seen_of p.earlier) ≡ true → era p.earlier ≡ era (chronicle setting (x ∷ h)) → ⊥))
      ⊎ ((m.epoch ≡ era (chronicle setting (x ∷ h)) + 1) × (era p.earlier ≡ era (chronicle setting (x ∷ h))) × (has_commit (seen_of p.earlier) ≡ true))
  lead_epoch p here late m emits = by r.epoch
    where
      r : LeadsAt setting (chronicle setting (x ∷ h)) a p
      r = l.leads p (behind here) late

      own : m.epoch ≡ epoch_now r.actor.past
      own =
          let s = emits.sends in
          (sends_own s.past s.call m s.effect).1 ∙ emission_keeps s.past s.call emits.emission ∙ ap epoch_now (some_is (sym s.there ∙ there_at p r))

      by : ((epoch_now r.actor.past ≡ era steps) × (has_commit (seen_of p.earlier) ≡ true → era p.earlier ≡ era steps → ⊥))
          ⊎ ((epoch_now r.actor.past ≡ era steps + 1) × (era p.earlier ≡ era steps) × (has_commit (seen_of p.earlier) ≡ true))
          → ((m.epoch ≡ era steps) × (has_commit (seen_of p.earlier) ≡ true → era p.earlier ≡ era steps → ⊥))
          ⊎ ((m.epoch ≡ era steps + 1) × (era p.earlier ≡ era steps) × (has_commit (seen_of p.earlier) ≡ true))
      by (inl is) = inl (own ∙ is.0, is.1)
      by (inr is) = inr (own ∙ is.0, is.1, is.2)

  -- after a commit it is the staged root
  pub leader_is_staged : (q : Moment) → IsIn q (chronicle setting (e ∷ x ∷ h)) → s0 < when q → has_commit (seen_of q.earlier) ≡ true
      → staged_root setting q.earlier ≡ a
  leader_is_staged q here late commit =
      let r : LeadsAt setting steps a q = l.leads q here late in
      let fair = l.span.comes.fair in
      let staged : IsActor setting (chronicle setting r.then_) (staged_root setting (chronicle setting r.then_)) =
      committed_actor setting r.then_ fair r.clean r.each (subst (λ older. has_commit (seen_of older) ≡ true) r.is commit) in
      ap (staged_root setting) r.is ∙ one_actor setting r.then_ fair r.clean r.each (staged_root setting (chronicle setting r.then_)) a staged r.actor

-- who acts
pub actor_of : (setting : Setting) (history : List Event) (a : ℕ) → acts_in (chronicle setting history) a ≡ true → IsActor setting (chronicle setting history) a
actor_of setting history a acts =
    let steps : List Step = chronicle setting history in
    let own : ActingPast steps a = acting_past setting history a acts in
    let at = up_and_past (is_up (seen_of steps) a) (past_in steps a) own.past own.live in
    record { past = own.past; up = at.0; there = at.1; acts = own.acts }

-- a member of the era's plan that acts before an event of the era leads there
module _ (setting : Setting) (steps : List Step) (q : Moment) (k : InEra setting steps q) (a : ℕ) (actor : IsActor setting (chronicle setting (k.x ∷ k.h)) a)
    (member : is_member (plan_now setting (chronicle setting (k.x ∷ k.h))) a ≡ true) where
  abbrev older : List Step
  older = chronicle setting (k.x ∷ k.h)

  clean_then : IsSteady setting (k.x ∷ k.h)
  clean_then = clean_before setting k.e (k.x ∷ k.h) k.comes.clean

  soon_then : reference_of k.e ≤ sent_at (chronicle setting (k.x ∷ k.h)) a + round_gap setting.net
  soon_then =
      let t : Timely setting (k.e ∷ k.x ∷ k.h) = times setting k.x k.h k.e k.comes in
      let line = sends_soon setting k.e (k.x ∷ k.h) a actor.past t actor.up
      (or_left (is_member (plan_now setting older) a) (is_staged_member setting (seen_of older) a) member) actor.there actor.acts in
      subst (λ n. reference_of k.e ≤ n + round_gap setting.net)
      (sym (sent_is setting older (timed setting (k.x ∷ k.h) (before setting k.e (k.x ∷ k.h) t)) a)) line

  number_is : (n : ℕ) → same_number (epoch_in (chronicle setting (k.x ∷ k.h)) a) n ≡ true → epoch_now actor.past ≡ n
  number_is n is = eqb-true (epoch_now actor.past) n (sym (ap (λ o. same_number o n) (epoch_is setting (k.x ∷ k.h) a actor.past actor.up actor.there)) ∙ is)

  -- it is old, or after a commit new
  epoch_then : (c : Bool) → has_commit (seen_of (chronicle setting (k.x ∷ k.h))) ≡ c
      → ((epoch_now actor.past ≡ era steps) × (has_commit (seen_of q.earlier) ≡ true → era q.earlier ≡ era steps → ⊥))
      ⊎ ((epoch_now actor.past ≡ era steps + 1) × (era q.earlier ≡ era steps) × (has_commit (seen_of q.earlier) ≡ true))
  epoch_then true commit =
      let new : is_new older a ≡ true = actor_is_new setting (k.x ∷ k.h) k.comes.fair clean_then k.comes.before commit a actor in
      inr (
        number_is (era older + 1) new ∙ ap (λ n. n + 1) k.same,
        subst (λ (p : Moment). era p.earlier ≡ era steps) (sym k.is) k.same,
        subst (λ (p : Moment). has_commit (seen_of p.earlier) ≡ true) (sym k.is) commit,
      )
  epoch_then false calm =
      inl (
        number_is (era older) (old (actor_is_current setting (k.x ∷ k.h) k.comes.fair clean_then k.comes.before a actor)) ∙ k.same,
        λ commit same. not_both (has_commit (seen_of older)) (subst (λ (p : Moment). has_commit (seen_of p.earlier) ≡ true) k.is commit) calm,
      )
    where
      old : (is_old (chronicle setting (k.x ∷ k.h)) a ≡ true) ⊎ (is_new (chronicle setting (k.x ∷ k.h)) a ≡ true)
          → is_old (chronicle setting (k.x ∷ k.h)) a ≡ true
      old (inl is) = is
      old (inr new) = absurd (not_both (is_new older a) new (not_new setting (k.x ∷ k.h) a clean_then.is calm))

  pub leads_in_era : LeadsAt setting steps a q
  leads_in_era =
      record {
        then_ = k.x ∷ k.h;
        is = ap (λ (p : Moment). p.earlier) k.is;
        clean = clean_then;
        each = k.comes.before;
        actor = actor;
        soon = subst (λ (p : Moment). when p ≤ sent_at p.earlier a + round_gap setting.net) (sym k.is) soon_then;
        made_not = subst (λ (p : Moment). makes a p.step.seen.event ≡ false) (sym k.is) (not_made setting older k.e a k.comes.clean.is.1 actor.up member);
        epoch = epoch_then (has_commit (seen_of older)) refl;
      }
