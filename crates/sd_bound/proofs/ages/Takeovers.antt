-- Where the root failed and the backup root does not act, not much time has gone by since the failures: lemma 16 in a settled run.
use Rattle.std.specs.Prelude.{◌≡◌, ℕ, ◌+◌, ◌*◌, ◌<◌, ◌≤◌, Bool, true, false, max, List, [], ◌∷◌, nat_eq, Option, Some, None, refl, if◌then◌else◌}
use Rattle.std.specs.List.{list_any}
use Rattle.std.specs.Option.{option_or}
use Rattle.std.proofs.Common.{arith, sym, ◌∙◌, subst}
use Rattle.std.proofs.lemmas.Bool.{eqb-true}
use Rattle.sd_num.specs.Lists.{map_or}
use Rattle.sd_plan.specs.declared.topo.Thing.{Thing}
use Rattle.sd_plan.specs.declared.topo.Thing.TheVariants as thing
use Rattle.sd_sched.specs.declared.Event.{Event}
use Rattle.sd_sched.specs.Events.{reference_of}
use Rattle.sd_history.specs.Things.{failure_of}
use Rattle.sd_history.specs.World.{Setting, fails, is_thing, plan_numbered}
use Rattle.sd_history.specs.Steps.{Step, seen_of, acts_in}
use Rattle.sd_history.specs.Chronicle.{chronicle}
use Rattle.sd_safety.specs.invariant.Bounds.{depth, delay, tick_gap, first_up, second_up}
use Rattle.sd_safety.specs.invariant.Eras.{era, plan_now, all_started, is_among, failed_now, first_failure, root_failed}
use Rattle.sd_safety.specs.invariant.Silences.{TakesOverSoon, root_failed_at}
use Rattle.sd_safety.specs.invariant.Coming.{AtNext}
use Rattle.sd_safety.specs.messages.Moments.{Tail, whole, behind, Moment, when, IsIn}
use Rattle.sd_safety.proofs.messages.Tails.{tail_trans, rest_of}
use Rattle.sd_safety.proofs.waits.Standing.{backup_root_is_old}
use Rattle.sd_bound.specs.timeouts.Settled.{the_plan, IsSettled}
use Rattle.sd_bound.proofs.timeouts.Settled.{era_is, failed_by, StageAt, stage_at}
use Rattle.sd_bound.proofs.timeouts.Scenes.{not_early}

-- the reference of the first failure is that of an event which fails something
first_by : (calm : ℕ) (things : List Thing) (steps : List Step)
    → ((q : Moment) → IsIn q steps → (y : Thing) → failure_of q.step.seen.event ≡ Some y → when q ≤ calm)
    → map_or (first_failure things (seen_of steps)) 0 (λ r. r) ≤ calm
first_by calm things [] early = omega arith
first_by calm things (s ∷ earlier) early =
    go s.seen.closed (first_failure things (seen_of earlier)) (first_by calm things earlier (λ q here. early q (behind here)))
    (list_any (λ x. fails x s.seen.event) things) refl
  where
    some_failure : (o : Option Thing) (xs : List Thing) → list_any (λ x. is_thing o x) xs ≡ true → (y : Thing) × (o ≡ Some y)
    some_failure None [] h = cc
    some_failure None (x ∷ xs) h = some_failure None xs h
    some_failure (Some y) xs h = (y, refl)

    by_fails : (f : Bool) → list_any (λ x. fails x s.seen.event) things ≡ f → map_or (if f then Some (reference_of s.seen.event) else None) 0 (λ r. r) ≤ calm
    by_fails false is = omega arith
    by_fails true is = let y = some_failure (failure_of s.seen.event) things is in early (record { step = s; earlier = earlier }) whole y.0 y.1

    go : (c : Bool) (o : Option ℕ) → map_or o 0 (λ r. r) ≤ calm → (f : Bool) → list_any (λ x. fails x s.seen.event) things ≡ f
        → map_or (if c then None else option_or o (if f then Some (reference_of s.seen.event) else None)) 0 (λ r. r) ≤ calm
    go true o before f is = omega arith
    go false (Some r) before f is = before
    go false None before f is = by_fails f is

late_by : (b : Bool) (r s calm : ℕ) → r ≤ calm → (b ≡ true → s ≤ calm) → (if b then max r s else r) ≤ calm
late_by true r s calm one two = let le = two refl in omega (arith, one, le)
late_by false r s calm one two = one

module _ (setting : Setting) (epoch : ℕ) (x : Event) (h : List Event) (e : Event) (calm : ℕ) (settled : IsSettled setting epoch (x ∷ h) e calm) (late_ : calm < reference_of e)
    (takes : AtNext TakesOverSoon setting)
    (early : (q : Moment) → IsIn q (chronicle setting (x ∷ h)) → (y : Thing) → failure_of q.step.seen.event ≡ Some y → when q ≤ calm) where
  abbrev steps : List Step
  steps = chronicle setting (x ∷ h)

  -- at the event
  taken_soon : is_among (failed_now (chronicle setting (x ∷ h))) (thing.Device (the_plan setting epoch).root) ≡ true
      → acts_in (chronicle setting (x ∷ h)) (the_plan setting epoch).backup_root ≡ false
      → reference_of e ≤ calm + (depth setting.net + 1) * delay setting.net + first_up setting.net (the_plan setting epoch) + second_up setting.net
      (the_plan setting epoch) + 2 * tick_gap setting.net
  taken_soon lost idle =
      let first : era steps ≡ epoch = era_is setting epoch (x ∷ h) e calm settled in
      let lost_ : root_failed setting steps ≡ true =
      subst (λ n. is_among (failed_now (chronicle setting (x ∷ h))) (thing.Device (plan_numbered setting n).root) ≡ true) (sym first) lost in
      let idle_ : acts_in steps (plan_now setting steps).backup_root ≡ false =
      subst (λ n. acts_in (chronicle setting (x ∷ h)) (plan_numbered setting n).backup_root ≡ false) (sym first) idle in
      let old = backup_root_is_old setting x h e settled.comes lost_ idle_ (not_early setting epoch x h e calm settled.way late_) in
      let by = takes (x ∷ h) e settled.comes lost_ old idle_ in
      let at : root_failed_at setting steps ≤ calm =
      late_by (nat_eq (era steps) 1) (map_or (first_failure (thing.Device (plan_now setting steps).root ∷ []) (seen_of steps)) 0 (λ r. r))
      (all_started setting steps) calm
      (first_by calm (thing.Device (plan_now setting steps).root ∷ []) steps early) (λ is. settled.way.started (sym first ∙ eqb-true (era steps) 1 is)) in
      subst (λ n. reference_of e ≤ calm + (depth setting.net + 1) * delay setting.net + first_up setting.net (plan_numbered setting n) + second_up setting.net
      (plan_numbered setting n) + 2 * tick_gap setting.net) first
      (sum (reference_of e) (root_failed_at setting steps) calm ((depth setting.net + 1) * delay setting.net) (first_up setting.net (plan_now setting steps))
      (second_up setting.net (plan_now setting steps)) (2 * tick_gap setting.net) by at)
    where
      sum : (r f c k a b q : ℕ) → r ≤ f + k + a + b + q → f ≤ c → r ≤ c + k + a + b + q
      sum r f c k a b q one two = omega (arith, one, two)

-- at each event that is later than the failures
pub takes_over_by : (setting : Setting) (epoch : ℕ) (history : List Event) (e : Event) (calm : ℕ) → IsSettled setting epoch history e calm → AtNext TakesOverSoon setting
    → (q : Moment) → IsIn q (chronicle setting (e ∷ history)) → calm < when q
    → is_among (failed_now (chronicle setting history)) (thing.Device (the_plan setting epoch).root) ≡ true
    → acts_in q.earlier (the_plan setting epoch).backup_root ≡ false
    → when q ≤ calm + (depth setting.net + 1) * delay setting.net + first_up setting.net (the_plan setting epoch) + second_up setting.net
    (the_plan setting epoch) + 2 * tick_gap setting.net
takes_over_by setting epoch history e calm settled takes q here late_ lost idle =
    let st : StageAt setting epoch calm (chronicle setting history) q = stage_at setting epoch history e calm settled q here late_ in
    let inside : Tail (chronicle setting (st.x ∷ st.h)) (chronicle setting (e ∷ history)) =
    subst (λ (p : Moment). Tail p.earlier (chronicle setting (e ∷ history))) st.is (rest_of here) in
    subst (λ p. when p ≤ calm + (depth setting.net + 1) * delay setting.net + first_up setting.net (the_plan setting epoch) + second_up setting.net
    (the_plan setting epoch) + 2 * tick_gap setting.net) (sym st.is)
    (taken_soon setting epoch st.x st.h st.e calm st.settled st.late takes (λ r r_in. failed_by setting epoch history e calm settled r (tail_trans r_in inside))
    (subst (λ failed. is_among failed (thing.Device (the_plan setting epoch).root) ≡ true) (sym st.failed) lost)
    (subst (λ (p : Moment). acts_in p.earlier (the_plan setting epoch).backup_root ≡ false) st.is idle))
