-- From the commit on the staged root is a source of rounds of the staged plan, and none is of a newer term.
use Rattle.std.specs.Prelude.{◌≡◌, ℕ, ◌+◌, ◌<◌, ◌≤◌, true, false, List, ◌∷◌, Option, Some, None, refl}
use Rattle.std.proofs.Common.{arith, sym, ◌∙◌, ap, subst, inr}
use Rattle.std.proofs.lemmas.Bool.{false_from_ne_true}
use Rattle.sd_plan.specs.declared.Duty.{Duty}
use Rattle.sd_device.specs.declared.msg.Message.{Message}
use Rattle.sd_checker.specs.check_root.Timing.{round_gap}
use Rattle.sd_device.specs.Calls.{Call, Transition, Entered, Past}
use Rattle.sd_device.specs.Words.{transition_of, taken_up, given_now, epoch_now, stamp_now}
use Rattle.sd_sched.specs.declared.Event.{Event}
use Rattle.sd_sched.specs.Events.{reference_of}
use Rattle.sd_history.specs.World.{Setting, makes, staged_epoch, window_is_open, plan_numbered}
use Rattle.sd_history.specs.Steps.{Calls, Step, seen_of}
use Rattle.sd_history.specs.Chronicle.{past_in, chronicle}
use Rattle.sd_history.proofs.Given.{some_is, takes_given}
use Rattle.sd_safety.proofs.invariant.Parts.{AllButStart, premises_of}
use Rattle.sd_safety.specs.invariant.Eras.{sent_at}
use Rattle.sd_safety.specs.invariant.Clauses.{staged_root}
use Rattle.sd_safety.specs.invariant.Guarded.{IsSteady}
use Rattle.sd_safety.proofs.invariant.Prefix.{clean_before}
use Rattle.sd_safety.specs.messages.Moments.{behind, Moment, when, IsIn, Emits}
use Rattle.sd_safety.specs.messages.Stamping.{EntersNot, enters, remakes}
use Rattle.sd_safety.proofs.messages.Tails.{history_chronicle}
use Rattle.sd_safety.proofs.messages.Sending.{sends_own}
use Rattle.sd_safety.proofs.messages.Overlap.{apart_by_rule}
use Rattle.sd_safety.proofs.timers.Histories.{Timely, timely, before}
use Rattle.sd_safety.specs.silences.Feeds.{IsSource, Feeds}
use Rattle.sd_safety.proofs.silences.SoundWays.{top_of}
use Rattle.sd_safety.proofs.silences.Spacing.{emissions_are_apart}
use Rattle.sd_safety.proofs.silences.RootIsSource.{emission_keeps}
use Rattle.sd_safety.proofs.windows.Given.{remakes_none}
use Rattle.sd_safety.proofs.windows.Committing.{staged_plan}
use Rattle.sd_safety.proofs.windows.StaysNew.{new_has_none}
use Rattle.sd_safety.proofs.terms.Actors.{IsActor}
use Rattle.sd_safety.proofs.terms.Terms.{IsTermed, termed}
use Rattle.sd_safety.specs.entering.After.{IsAfter}
use Rattle.sd_safety.proofs.entering.Stages.{Known, known}
use Rattle.sd_safety.proofs.entering.States as states

-- who enters takes up a duty
pub entering_takes : (transition : Transition) → enters transition ≡ true → (u : Duty) × (taken_up transition ≡ Some u)
entering_takes (Entered duty edge) is = (duty, refl)
entering_takes _ is = cc

pub none_or_some : {A : Type 0} {o : Option A} {x : A} → o ≡ None → o ≡ Some x → ⊥
none_or_some none some = cc

module _ (setting : Setting) (history : List Event) (e : Event) (s0 : ℕ) (after : IsAfter setting history e s0) where
  abbrev steps : List Step
  steps = chronicle setting history

  abbrev root : ℕ
  root = (staged_plan setting (chronicle setting history)).root

  abbrev next : ℕ
  next = staged_epoch (seen_of (chronicle setting history))

  root_same : (q : Moment) (k : Known setting (chronicle setting history) q)
      → (staged_plan setting (chronicle setting k.h)).root ≡ (staged_plan setting (chronicle setting history)).root
  root_same q k = ap (λ n. (plan_numbered setting (n + 1)).root) k.same

  next_same : (q : Moment) (k : Known setting (chronicle setting history) q)
      → staged_epoch (seen_of (chronicle setting k.h)) ≡ staged_epoch (seen_of (chronicle setting history))
  next_same q k = ap (λ n. n + 1) k.same

  -- the staged root at a moment
  record RootAt (q : Moment) : Type 0 where
    past : Past
    there : past_in q.earlier root ≡ Some past
    epoch : epoch_now past ≡ next
    given : given_now past ≡ None

  root_at : (q : Moment) → Known setting (chronicle setting history) q → RootAt q
  root_at q k =
      let actor : IsActor setting (chronicle setting k.h) (staged_root setting (chronicle setting k.h)) = states.actor setting k.h k.e k.comes k.commit in
      let there : past_in (chronicle setting k.h) (staged_plan setting (chronicle setting k.h)).root ≡ Some actor.past =
      states.root_there setting k.h k.e k.comes k.commit in
      let epoch : epoch_now actor.past ≡ staged_epoch (seen_of (chronicle setting k.h)) = states.actor_epoch setting k.h k.e k.comes k.commit in
      record {
        past = actor.past;
        there = subst (λ (p : Moment). past_in p.earlier root ≡ Some actor.past) (sym k.is)
            (subst (λ z. past_in (chronicle setting k.h) z ≡ Some actor.past) (root_same q k) there);
        epoch = epoch ∙ next_same q k;
        given = new_has_none setting k.h k.comes.clean.is.0 (staged_root setting (chronicle setting k.h)) actor.past actor.there epoch;
      }

  soon_at : (q : Moment) → Known setting (chronicle setting history) q → when q ≤ sent_at q.earlier root + round_gap setting.net
  soon_at q k =
      subst (λ (p : Moment). when p ≤ sent_at p.earlier root + round_gap setting.net) (sym k.is)
      (subst (λ z. reference_of k.e ≤ sent_at (chronicle setting k.h) z + round_gap setting.net) (root_same q k)
      (states.root_soon setting k.h k.e k.comes k.commit))

  makes_not : (q : Moment) → Known setting (chronicle setting history) q → makes root q.step.seen.event ≡ false
  makes_not q k = subst (λ (p : Moment). makes root p.step.seen.event ≡ false) (sym k.is) (states.makes_not setting k.h k.e k.comes k.commit root)

  remakes_not : (q : Moment) → Known setting (chronicle setting history) q → remakes root q.step.act ≡ false
  remakes_not q k =
      subst (λ (p : Moment). remakes root p.step.act ≡ false) (sym k.is)
      (remakes_none setting (chronicle setting k.h) k.e root (states.makes_not setting k.h k.e k.comes k.commit root))

  enters_not : (q : Moment) → Known setting (chronicle setting history) q → (past : Past) (call : Call) → q.step.act ≡ Calls root call
      → past_in q.earlier root ≡ Some past → EntersNot past call
  enters_not q k past call act there =
      false_from_ne_true (enters (transition_of past call))
      (λ is.
      let r : RootAt q = root_at q k in
      let u = entering_takes (transition_of past call) is in
      none_or_some (subst (λ p. given_now p ≡ None) (some_is (sym r.there ∙ there)) r.given) (takes_given past call u.0 u.1))

  at_moment : (q : Moment) → IsIn q (chronicle setting (e ∷ history)) → s0 < when q → Known setting (chronicle setting history) q
  at_moment = known setting history e s0 after

  root_source : IsSource setting (top_of setting history e) (staged_plan setting (chronicle setting history)).root s0
  root_source =
      record {
        chronicle_ = history_chronicle setting (e ∷ history) after.comes.clean.is;
        renew = (premises_of setting (seen_of (chronicle setting (e ∷ history))) after.comes.clean.premises).renew;
        soon = λ q here late. soon_at q (at_moment q here late);
        stays = λ q here late. let k : Known setting (chronicle setting history) q = at_moment q (behind here) late in
            (makes_not q k, remakes_not q k, enters_not q k);
      }

  root_epoch : (p : Moment) → IsIn p (chronicle setting history) → s0 < when p → (m : Message)
      → Emits p (staged_plan setting (chronicle setting history)).root m → m.epoch ≡ staged_epoch (seen_of (chronicle setting history))
  root_epoch p here late m emits =
      let s = emits.sends in
      let r : RootAt p = root_at p (at_moment p (behind here) late) in
      (sends_own s.past s.call m s.effect).1 ∙ emission_keeps s.past s.call emits.emission ∙ ap epoch_now (some_is (sym s.there ∙ r.there)) ∙ r.epoch

  equal_terms : (a b t : ℕ) → a ≡ t → b ≡ t → a ≤ b
  equal_terms a b t one two = omega (arith, one, two)

  pub root_feeds : Feeds setting (top_of setting history e) (staged_plan setting (chronicle setting history)).root s0
      (staged_epoch (seen_of (chronicle setting history)))
  root_feeds =
      let premises : AllButStart setting (seen_of (chronicle setting (e ∷ history))) =
      premises_of setting (seen_of (chronicle setting (e ∷ history))) after.comes.clean.premises in
      let clean : IsSteady setting history = clean_before setting e history after.comes.clean in
      let t : Timely setting (e ∷ history) = timely setting (e ∷ history) after.comes.fair.network after.comes.clean.is after.comes.clean.premises in
      let terms : IsTermed setting steps = termed setting history after.comes.fair clean after.comes.before in
      let actor : IsActor setting steps (staged_root setting steps) = states.actor setting history e after.comes after.commit in
      let epoch : epoch_now actor.past ≡ next = states.actor_epoch setting history e after.comes after.commit in
      record {
        source = root_source;
        delay = premises.delay;
        loss = premises.loss;
        life = terms.life;
        spacing = emissions_are_apart setting history (before setting e history t);
        rule = apart_by_rule setting.net (staged_plan setting steps) (states.guarded setting history e after.comes after.commit).timing;
        epoch_is = root_epoch;
        newest = λ p here late m emits q q_in y n emits' epoch_is.
            equal_terms n.stamp.term m.stamp.term (stamp_now actor.past).term (terms.same (staged_root setting steps) actor epoch q q_in y n emits' epoch_is)
            (terms.same (staged_root setting steps) actor epoch p here root m emits (root_epoch p here late m emits));
        current = λ q here late. let k : Known setting steps q = at_moment q (behind here) late in
            inr (
              subst (λ (p : Moment). next ≡ staged_epoch (seen_of p.earlier)) (sym k.is) (sym (next_same q k)),
              subst (λ (p : Moment). window_is_open (seen_of p.earlier) ≡ true) (sym k.is) (states.opened setting k.h k.e k.comes k.commit),
            );
      }
