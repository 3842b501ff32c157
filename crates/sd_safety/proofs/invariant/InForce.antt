-- In a history the plan in force is one of the command's plans: a plan is staged only where one is left, and a window closes only where it is open.
use Rattle.std.specs.Prelude.{◌≡◌, ℕ, zero, suc, ◌+◌, ◌-◌, ◌<◌, ◌≤◌, Bool, true, false, ◌&&◌, not, List, [], ◌∷◌, cond, length, count_by, nat_le, Option, Some, None, is_some, option_map, refl, if◌then◌else◌}
use Rattle.std.specs.List.{list_any}
use Rattle.std.proofs.Common.{arith, ◌∙◌, sym, subst}
use Rattle.std.proofs.lemmas.Bool.{and_parts, leb-false}
use Rattle.std.proofs.lemmas.List.Sums.{sum_by-cons}
use Rattle.sd_num.specs.Lists.{map_or, at_place}
use Rattle.sd_plan.specs.topo.Network.{Each}
use Rattle.sd_plan.specs.declared.Plan.{Plan}
use Rattle.sd_sched.specs.declared.Event.{Event}
use Rattle.sd_sched.specs.Events.{is_stage, is_commit}
use Rattle.sd_history.specs.World.{Setting, Seen, window, window_is_open, epoch_in_force, no_plan}
use Rattle.sd_history.specs.Steps.{Step, seen_of}
use Rattle.sd_history.specs.Chronicle.{next_step, chronicle}
use Rattle.sd_history.specs.Admitted.{IsAdmitted}
use Rattle.sd_history.specs.Refusals.{no_plan_left}
use Rattle.sd_history.proofs.Clear.{clear}
use Rattle.sd_safety.specs.invariant.Eras.{era, plan_now}

-- there are as many plans as the era's number, and one more while a window is open
record HasPlans (setting : Setting) (seen : List Seen) : Type 0 where
  pub now : epoch_in_force seen ≤ length setting.plans
  pub next : window_is_open seen ≡ true → epoch_in_force seen + 1 ≤ length setting.plans

abbrev window_after : Bool → Bool → Seen → Option (List Seen) → Option (List Seen)
window_after closed stage x w = if closed then None else if stage then Some [] else option_map (λ v. x ∷ v) w

was_open : (stage : Bool) (x : Seen) (w : Option (List Seen)) (test : Seen → Bool) → map_or (window_after false stage x w) false (list_any test) ≡ true
    → is_some w ≡ true
was_open true x w test has = cc
was_open false x None test has = cc
was_open false x (Some v) test has = refl

plans_after : (closed stage : Bool) (x : Seen) (w : Option (List Seen)) (count l : ℕ) → count + 1 ≤ l → (is_some w ≡ true → count + 1 + 1 ≤ l)
    → (closed ≡ true → is_some w ≡ true) → (stage ≡ true → is_some w ≡ false → count + 1 < l)
    → (cond closed 1 0 + count + 1 ≤ l) × (is_some (window_after closed stage x w) ≡ true → cond closed 1 0 + count + 1 + 1 ≤ l)
plans_after true stage x w count l now next closes stages = let more = next (closes refl) in (omega (arith, more), λ is. cc)
plans_after false true x None count l now next closes stages = let left = stages refl refl in (omega (arith, now), λ is. omega (arith, left))
plans_after false true x (Some v) count l now next closes stages = let more = next refl in (omega (arith, now), λ is. omega (arith, more))
plans_after false false x None count l now next closes stages = (omega (arith, now), λ is. cc)
plans_after false false x (Some v) count l now next closes stages = let more = next refl in (omega (arith, now), λ is. omega (arith, more))

left_when : (stage opened short : Bool) (epoch l : ℕ) → (stage && not opened && short) ≡ false → short ≡ nat_le l epoch → stage ≡ true → opened ≡ false
    → epoch < l
left_when true false short epoch l none is staged closed = leb-false l epoch (sym is ∙ none)
left_when true true short epoch l none is staged closed = cc
left_when false opened short epoch l none is staged closed = cc

has_plans : (setting : Setting) (history : List Event) → 1 ≤ length setting.plans → IsAdmitted setting history
    → HasPlans setting (seen_of (chronicle setting history))
has_plans setting [] some is = record { now = omega (arith, some); next = λ is. cc }
has_plans setting (e ∷ earlier) some is =
    let steps = chronicle setting earlier in
    let before : HasPlans setting (seen_of steps) = has_plans setting earlier some is.0 in
    let s : Step = next_step setting steps e in
    let left : no_plan_left setting (seen_of steps) e ≡ false =
    (clear setting steps e is.1).plan_left in
    let both =
    plans_after s.seen.closed (is_stage e) s.seen (window (seen_of steps)) (count_by (λ x. x.closed) (seen_of steps))
    (length setting.plans) before.now before.next
    (λ closes. was_open (is_stage e) _ (window (seen_of steps)) (λ x. is_commit x.event) (and_parts _ _ closes).0)
    (left_when (is_stage e) (window_is_open (seen_of steps)) (nat_le (length setting.plans) (epoch_in_force (seen_of steps))) (epoch_in_force (seen_of steps))
    (length setting.plans) left refl) in
    let more : count_by (λ x. x.closed) (s.seen ∷ seen_of steps) ≡ cond s.seen.closed 1 0 + count_by (λ x. x.closed) (seen_of steps) =
    sum_by-cons (λ (x : Seen). cond x.closed 1 0) s.seen (seen_of steps) in
    record {
      now = subst (λ n. n + 1 ≤ length setting.plans) (sym more) both.0;
      next = λ is. subst (λ n. n + 1 + 1 ≤ length setting.plans) (sym more) (both.1 is);
    }

pub of_each : (P : Plan → Type 0) (plans : List Plan) (i : ℕ) → Each P plans → i < length plans → P (at_place plans i no_plan (λ plan. plan))
of_each P [] i each within = absurd (omega (arith, within))
of_each P (plan ∷ plans) zero each within = each zero plan refl
of_each P (plan ∷ plans) (suc i) each within = of_each P plans i (λ j x at. each (suc j) x at) (omega (arith, within))

-- what holds of each plan holds of the one in force
pub in_force_too : (P : Plan → Type 0) (setting : Setting) (history : List Event) → Each P setting.plans → 1 ≤ length setting.plans → IsAdmitted setting history
    → P (plan_now setting (chronicle setting history))
in_force_too P setting history each some is =
    let plans : HasPlans setting (seen_of (chronicle setting history)) = has_plans setting history some is in
    of_each P setting.plans (era (chronicle setting history) - 1) each (omega (arith, plans.now, some))
