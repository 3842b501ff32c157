-- What is true of each duty that the steps give is true of the duties that a device has, as that it has the network's period; and no reference of Times is
-- later than the latest event. By induction on the steps.
use Rattle.std.specs.Prelude.{◌≡◌, ℕ, ◌≤◌, Bool, true, false, ◌||◌, List, [], ◌∷◌, nat_eq, Option, Some, None, option_map, refl, if◌then◌else◌}
use Rattle.std.proofs.Common.{arith, ◌∙◌, subst}
use Rattle.sd_num.specs.Lists.{map_or, same_number}
use Rattle.sd_plan.specs.declared.Duty.{Duty}
use Rattle.sd_device.specs.Calls.{Making, Call, Give, CallDone, Past}
use Rattle.sd_device.specs.Words.{after, first_duty, duty_given}
use Rattle.sd_sched.specs.Events.{reference_of, ticked}
use Rattle.sd_history.specs.World.{Setting, makes, latest_reference}
use Rattle.sd_history.specs.Steps.{Act, Makes, Calls, Asks, Passes, Step, seen_of}
use Rattle.sd_history.specs.Chronicle.{past_in, past_after, new_past}
use Rattle.sd_history.specs.Premises.{latest_tick}
use Rattle.sd_history.proofs.Given.{HasDuties, GivesSuch, duties_after, some_is}
use Rattle.sd_safety.specs.timers.Times.{AreTimed, gives_duty, did_by, reference_after, reference_by}

-- each duty that a step gives is such
abbrev pub EachGives : (Duty → Type 0) → List Step → Type 0
EachGives P [] = Unit {0}
EachGives P (s ∷ earlier) = EachGives P earlier × ((duty : Duty) → gives_duty s.act ≡ Some duty → P duty)

gives : (P : Duty → Type 0) (call : Call) → ((duty : Duty) → duty_given call ≡ Some duty → P duty) → GivesSuch P call
gives P (Give duty) each = each duty refl
gives P _ each = tt

made_has : (P : Duty → Type 0) (making : Making) → ((duty : Duty) → first_duty making ≡ Some duty → P duty) → HasDuties P (new_past making)
made_has P making each = record { duty = each; given = λ u same. cc }

module _ (P : Duty → Type 0) (d : ℕ) (p : Option Past) (old : (past : Past) → p ≡ Some past → HasDuties P past) where
  made : (making : Making) (b : Bool) → ((duty : Duty) → first_duty making ≡ Some duty → P duty) → (past : Past)
      → (if b then Some (new_past making) else p) ≡ Some past → HasDuties P past
  made making true each past same = subst (HasDuties P) (some_is same) (made_has P making each)
  made making false each past same = old past same

  called : (call : Call) (q : Option Past) (b : Bool) → p ≡ q → ((duty : Duty) → duty_given call ≡ Some duty → P duty) → (past : Past)
      → (if b then option_map (λ x. after x call) q else q) ≡ Some past → HasDuties P past
  called call None true is each past same = cc
  called call (Some x) true is each past same = subst (HasDuties P) (some_is same) (duties_after P x call (old x is) (gives P call each))
  called call q false is each past same = old past (is ∙ same)

  by_act : (act : Act) → ((duty : Duty) → gives_duty act ≡ Some duty → P duty) → (past : Past) → past_after act d p ≡ Some past → HasDuties P past
  by_act (Makes m making) each past same = made making (nat_eq m d) each past same
  by_act (Calls m call) each past same = called call p (nat_eq m d) refl each past same
  by_act (Asks m counter) each past same = old past same
  by_act Passes each past same = old past same

-- so is each duty that a device has
pub duties_in : (P : Duty → Type 0) (steps : List Step) → EachGives P steps → (d : ℕ) (past : Past) → past_in steps d ≡ Some past → HasDuties P past
duties_in P [] each d past is = cc
duties_in P (s ∷ earlier) each d past is = by_act P d (past_in earlier d) (duties_in P earlier each.0 d) s.act each.1 past is

abbrev pub HasPeriod : ℕ → Duty → Type 0
HasPeriod period duty = duty.period ≡ period

gives_periods : (setting : Setting) (steps : List Step) → AreTimed setting steps → EachGives (HasPeriod setting.net.params.period) steps
gives_periods setting [] timed = tt
gives_periods setting (s ∷ earlier) timed = (gives_periods setting earlier timed.0, timed.1.period)

pub periods_in : (setting : Setting) (steps : List Step) → AreTimed setting steps → (d : ℕ) (past : Past) → past_in steps d ≡ Some past
    → HasDuties (HasPeriod setting.net.params.period) past
periods_in setting steps timed d past is = duties_in (HasPeriod setting.net.params.period) steps (gives_periods setting steps timed) d past is

-- Nothing is later than the latest event.

told_within : (o : Option ℕ) (r before l : ℕ) → before ≤ l → l ≤ r → map_or o before (λ c. r) ≤ r
told_within None r before l a b = omega (arith, a, b)
told_within (Some c) r before l a b = omega arith

after_within : (f : CallDone → Option ℕ) (act : Act) (d r before l : ℕ) (p : Option Past) → before ≤ l → l ≤ r → reference_after f r act d p before ≤ r
after_within f (Makes m making) d r before l p a b = go (nat_eq m d)
  where
    go : (x : Bool) → (if x then r else before) ≤ r
    go true = omega arith
    go false = omega (arith, a, b)
after_within f (Calls m call) d r before l p a b = go (nat_eq m d) p
  where
    go : (x : Bool) (q : Option Past) → (if x then map_or q before (λ y. map_or (f (did_by y call)) before (λ c. r)) else before) ≤ r
    go true None = omega (arith, a, b)
    go true (Some y) = told_within (f (did_by y call)) r before l a b
    go false q = omega (arith, a, b)
after_within f (Asks m counter) d r before l p a b = omega (arith, a, b)
after_within f Passes d r before l p a b = omega (arith, a, b)

pub reference_within : (f : CallDone → Option ℕ) (setting : Setting) (steps : List Step) → AreTimed setting steps → (d : ℕ)
    → reference_by f steps d ≤ latest_reference (seen_of steps)
reference_within f setting [] timed d = omega arith
reference_within f setting (s ∷ earlier) timed d =
    after_within f s.act d (reference_of s.seen.event) (reference_by f earlier d) (latest_reference (seen_of earlier)) (past_in earlier d)
    (reference_within f setting earlier timed.0 d) timed.1.goes_on

pub tick_within : (setting : Setting) (steps : List Step) → AreTimed setting steps → (d : ℕ) → latest_tick (seen_of steps) d ≤ latest_reference (seen_of steps)
tick_within setting [] timed d = omega arith
tick_within setting (s ∷ earlier) timed d =
    go (same_number (ticked s.seen.event) d || makes d s.seen.event) (tick_within setting earlier timed.0 d) timed.1.goes_on
  where
    go : (b : Bool) → latest_tick (seen_of earlier) d ≤ latest_reference (seen_of earlier) → latest_reference (seen_of earlier) ≤ reference_of s.seen.event
        → map_or (if b then Some (reference_of s.seen.event) else None) (latest_tick (seen_of earlier) d) (λ x. x) ≤ reference_of s.seen.event
    go true a b = omega arith
    go false a b = omega (arith, a, b)
