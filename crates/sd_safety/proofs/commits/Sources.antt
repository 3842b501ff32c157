-- After a commit of the backup root it leads, since it acted: before the commit in the era's plan, and after it in the staged one.
use Rattle.std.specs.Prelude.{◌≡◌, ℕ, ◌+◌, ◌<◌, Bool, true, false, List, ◌∷◌, refl}
use Rattle.std.proofs.Common.{◌∙◌, ap, sym, subst}
use Rattle.sd_plan.specs.Plans.{is_member}
use Rattle.sd_sched.specs.declared.Event.{Event}
use Rattle.sd_history.specs.World.{Setting, has_commit, plan_numbered}
use Rattle.sd_history.specs.Steps.{Step, seen_of, acts_in}
use Rattle.sd_history.specs.Chronicle.{chronicle}
use Rattle.sd_safety.specs.invariant.Eras.{plan_now}
use Rattle.sd_safety.proofs.invariant.Prefix.{clean_before}
use Rattle.sd_safety.specs.messages.Moments.{Moment, when, IsIn}
use Rattle.sd_safety.proofs.waits.Standing.{sound}
use Rattle.sd_safety.proofs.terms.Actors.{IsActor, committed_actor}
use Rattle.sd_safety.proofs.entering.States as states
use Rattle.sd_safety.specs.rounds.Spans.{IsSpan, in_era}
use Rattle.sd_safety.proofs.rounds.Places.{InEra, of_era}
use Rattle.sd_safety.proofs.rounds.Leaders.{IsLeader, actor_of, leads_in_era}
use Rattle.sd_safety.specs.commits.Leading.{IsLed}

module _ (setting : Setting) (x : Event) (h : List Event) (e : Event) (s0 : ℕ) (led : IsLed setting x h e s0) where
  abbrev steps : List Step
  steps = chronicle setting (x ∷ h)

  abbrev b : ℕ
  b = (plan_now setting (chronicle setting (x ∷ h))).backup_root

  pub span : IsSpan setting x h e s0
  span = record { comes = led.comes; started = λ first. led.started; within = λ q here late. in_era (led.same q here late) }

  module _ (q : Moment) (here : IsIn q (chronicle setting (e ∷ x ∷ h))) (late : s0 < when q) (k : InEra setting (chronicle setting (x ∷ h)) q) where
    abbrev older : List Step
    older = chronicle setting (k.x ∷ k.h)

    member : is_member (plan_now setting (chronicle setting (k.x ∷ k.h))) b ≡ true
    member = subst (λ n. is_member (plan_now setting older) (plan_numbered setting n).backup_root ≡ true) k.same
        (sound setting k.x k.h k.e k.comes).backup_member

    acts_then : (c : Bool) → has_commit (seen_of (chronicle setting (k.x ∷ k.h))) ≡ c → IsActor setting (chronicle setting (k.x ∷ k.h)) b
    acts_then true commit =
        subst (λ z. IsActor setting older z) (states.root_is setting (k.x ∷ k.h) k.e k.comes commit ∙ ap (λ n. (plan_numbered setting (n + 1)).root) k.same
        ∙ led.root)
        (committed_actor setting (k.x ∷ k.h) k.comes.fair (clean_before setting k.e (k.x ∷ k.h) k.comes.clean) k.comes.before commit)
    acts_then false calm =
        actor_of setting (k.x ∷ k.h) b
        (subst (λ (p : Moment). acts_in p.earlier b ≡ true) k.is
        (led.acts q here late (subst (λ (p : Moment). has_commit (seen_of p.earlier) ≡ false) (sym k.is) calm)))

  pub leads : IsLeader setting x h e s0 (plan_now setting (chronicle setting (x ∷ h))).backup_root
  leads =
      record {
        span = span;
        leads = λ q here late. let k : InEra setting steps q = of_era setting x h e s0 span q here late (led.same q here late) in
            leads_in_era setting steps q k b (acts_then q here late k (has_commit (seen_of (chronicle setting (k.x ∷ k.h)))) refl) (member q here late k);
      }
