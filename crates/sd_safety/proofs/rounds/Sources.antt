-- Over a span in which the root did not fail it leads.
use Rattle.std.specs.Prelude.{◌≡◌, ℕ, ◌+◌, ◌≤◌, true, false, List, ◌∷◌, Some}
use Rattle.std.proofs.Common.{arith, sym, ◌∙◌, ap, subst, inl, inr}
use Rattle.std.proofs.lemmas.Bool.{eqb-true}
use Rattle.sd_plan.specs.declared.topo.Thing.TheVariants as thing
use Rattle.sd_plan.specs.Plans.{is_member}
use Rattle.sd_checker.specs.check_root.Timing.{round_gap}
use Rattle.sd_sched.specs.declared.Event.{Event}
use Rattle.sd_sched.specs.Events.{reference_of}
use Rattle.sd_history.specs.World.{Setting, makes, is_up, has_commit, plan_numbered}
use Rattle.sd_history.specs.Steps.{Step, seen_of, acts_in}
use Rattle.sd_history.specs.Chronicle.{past_in, chronicle}
use Rattle.sd_safety.specs.invariant.Eras.{era, plan_now, is_among, failed_now, root_failed, root_lives, sent_at}
use Rattle.sd_safety.specs.invariant.Clauses.{staged_root}
use Rattle.sd_safety.proofs.invariant.Prefix.{clean_before}
use Rattle.sd_safety.proofs.invariant.Sides.{implied}
use Rattle.sd_safety.specs.messages.Moments.{Moment, when}
use Rattle.sd_safety.proofs.waits.Standing.{now, sound, leads, lives}
use Rattle.sd_safety.proofs.silences.Phases.{fewer}
use Rattle.sd_safety.proofs.windows.Committing.{staged_plan}
use Rattle.sd_safety.proofs.terms.Actors.{IsActor}
use Rattle.sd_safety.proofs.entering.States as states
use Rattle.sd_safety.specs.rounds.Spans.{IsSpan}
use Rattle.sd_safety.proofs.rounds.Places.{InEra, InWindow, place}
use Rattle.sd_safety.proofs.rounds.Leaders.{LeadsAt, IsLeader, actor_of, leads_in_era}

module _ (setting : Setting) (x : Event) (h : List Event) (e : Event) (s0 : ℕ) (span : IsSpan setting x h e s0)
    (kept : root_failed setting (chronicle setting (x ∷ h)) ≡ false) where
  abbrev steps : List Step
  steps = chronicle setting (x ∷ h)

  abbrev root : ℕ
  root = (plan_now setting (chronicle setting (x ∷ h))).root

  pub kept_then : (q : Moment) (k : InEra setting (chronicle setting (x ∷ h)) q) → root_failed setting (chronicle setting (k.x ∷ k.h)) ≡ false
  kept_then q k =
      let same = k.same in
      subst (λ n. is_among (failed_now (chronicle setting (k.x ∷ k.h))) (thing.Device (plan_numbered setting n).root) ≡ false) (sym k.same)
      (fewer (thing.Device (plan_now setting steps).root) (chronicle setting (k.x ∷ k.h)) steps k.part (omega (arith, same)) kept)

  root_in_era : (q : Moment) (k : InEra setting (chronicle setting (x ∷ h)) q)
      → (plan_now setting (chronicle setting (k.x ∷ k.h))).root ≡ (plan_now setting (chronicle setting (x ∷ h))).root
  root_in_era q k = ap (λ n. (plan_numbered setting n).root) k.same

  root_in_window : (q : Moment) (k : InWindow setting (chronicle setting (x ∷ h)) q)
      → (staged_plan setting (chronicle setting k.h)).root ≡ (plan_now setting (chronicle setting (x ∷ h))).root
  root_in_window q k = ap (λ n. (plan_numbered setting n).root) k.same

  at_era : (q : Moment) → InEra setting (chronicle setting (x ∷ h)) q → LeadsAt setting (chronicle setting (x ∷ h)) root q
  at_era q k =
      let older : List Step = chronicle setting (k.x ∷ k.h) in
      let acts : acts_in older (plan_now setting older).root ≡ true =
      implied (root_lives setting older) (acts_in older (plan_now setting older).root) (now setting k.x k.h k.e k.comes).core.roles.root
      (lives setting k.x k.h k.e k.comes (kept_then q k) k.late) in
      leads_in_era setting steps q k root
      (subst (λ z. IsActor setting older z) (root_in_era q k) (actor_of setting (k.x ∷ k.h) (plan_now setting older).root acts))
      (subst (λ z. is_member (plan_now setting older) z ≡ true) (root_in_era q k) (sound setting k.x k.h k.e k.comes).rules.root)

  at_window : (q : Moment) → InWindow setting (chronicle setting (x ∷ h)) q → LeadsAt setting (chronicle setting (x ∷ h)) root q
  at_window q k =
      let older : List Step = chronicle setting k.h in
      let actor : IsActor setting older (staged_root setting older) = states.actor setting k.h k.e k.comes k.commit in
      let there : past_in older (staged_plan setting older).root ≡ Some actor.past = states.root_there setting k.h k.e k.comes k.commit in
      record {
        then_ = k.h;
        is = ap (λ (p : Moment). p.earlier) k.is;
        clean = clean_before setting k.e k.h k.comes.clean;
        each = k.comes.before;
        actor =
            record {
              past = actor.past;
              up = subst (λ z. is_up (seen_of older) z ≡ true) (states.root_is setting k.h k.e k.comes k.commit ∙ root_in_window q k) actor.up;
              there = subst (λ z. past_in older z ≡ Some actor.past) (root_in_window q k) there;
              acts = actor.acts;
            };
        soon =
            subst (λ (p : Moment). when p ≤ sent_at p.earlier root + round_gap setting.net) (sym k.is)
            (subst (λ z. reference_of k.e ≤ sent_at older z + round_gap setting.net) (root_in_window q k) (states.root_soon setting k.h k.e k.comes k.commit));
        made_not = subst (λ (p : Moment). makes root p.step.seen.event ≡ false) (sym k.is) (states.makes_not setting k.h k.e k.comes k.commit root);
        epoch =
            inl (
              states.actor_epoch setting k.h k.e k.comes k.commit ∙ k.same,
              λ commit same. next_not (era older) (era steps) k.same (subst (λ (p : Moment). era p.earlier ≡ era steps) k.is same),
            );
      }
    where
      next_not : (a b : ℕ) → a + 1 ≡ b → a ≡ b → ⊥
      next_not a b next same = omega (arith, next, same)

  pub root_leads : IsLeader setting x h e s0 (plan_now setting (chronicle setting (x ∷ h))).root
  root_leads = record { span = span; leads = λ q here late. elim (place setting x h e s0 span q here late) [ inl k ↦ at_era q k | inr k ↦ at_window q k ] }

  -- after a commit the staged root is the root
  pub staged_is : has_commit (seen_of (chronicle setting (x ∷ h))) ≡ true
      → staged_root setting (chronicle setting (x ∷ h)) ≡ (plan_now setting (chronicle setting (x ∷ h))).root
  staged_is commit =
      eqb-true (staged_root setting steps) (plan_now setting steps).root (implied (has_commit (seen_of steps)) _ (leads setting x h e span.comes kept) commit)
