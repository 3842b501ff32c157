-- Emissions of a device lie at least Low of the period apart: each mark so far is no later than the reference of the latest one, from which the
-- next emission counts. And a commit of a device that acts changes no such reference.
use Rattle.std.specs.Prelude.{◌≡◌, ℕ, ◌-◌, ◌≤◌, Bool, true, false, List, ◌∷◌, nat_eq, Option, Some, None, refl, if◌then◌else◌}
use Rattle.std.proofs.Common.{arith, ◌∙◌, ap, subst}
use Rattle.std.proofs.lemmas.Bool.{eq-eqb}
use Rattle.sd_num.specs.Lists.{map_or}
use Rattle.sd_num.specs.Numbers.{low}
use Rattle.sd_plan.specs.topo.Network.{rates_of}
use Rattle.sd_plan.specs.declared.Duty.{Duty}
use Rattle.sd_device.specs.Calls.{CallDone, Past}
use Rattle.sd_device.specs.Words.{duty_now, emits, emits_at}
use Rattle.sd_sched.specs.Events.{reference_of}
use Rattle.sd_history.specs.World.{Setting, latest_reference}
use Rattle.sd_history.specs.Steps.{Act, Makes, Calls, Asks, Passes, Step, seen_of}
use Rattle.sd_history.specs.Chronicle.{past_in}
use Rattle.sd_safety.specs.messages.Moments.{Tail, whole, behind}
use Rattle.sd_safety.specs.timers.Times.{AreTimed, did_by, makes_device, reference_after, reference_by, sent_in}
use Rattle.sd_safety.specs.timers.Since.{IsMarked}
use Rattle.sd_safety.proofs.timers.NotEarly.{IsTick, emission_not_early}
use Rattle.sd_safety.proofs.timers.Periods.{reference_within, periods_in}

told_rises : (o : Option ℕ) (r before : ℕ) → before ≤ r → before ≤ map_or o before (λ c. r)
told_rises None r before le = omega arith
told_rises (Some c) r before le = le

after_rises : (f : CallDone → Option ℕ) (act : Act) (d r before : ℕ) (p : Option Past) → before ≤ r → before ≤ reference_after f r act d p before
after_rises f (Makes m making) d r before p le = go (nat_eq m d)
  where
    go : (x : Bool) → before ≤ (if x then r else before)
    go true = le
    go false = omega arith
after_rises f (Calls m call) d r before p le = go (nat_eq m d) p
  where
    go : (x : Bool) (q : Option Past) → before ≤ (if x then map_or q before (λ y. map_or (f (did_by y call)) before (λ c. r)) else before)
    go true None = omega arith
    go true (Some y) = told_rises (f (did_by y call)) r before le
    go false q = omega arith
after_rises f (Asks m counter) d r before p le = omega arith
after_rises f Passes d r before p le = omega arith

pub timed_tail : (setting : Setting) (older steps : List Step) → Tail older steps → AreTimed setting steps → AreTimed setting older
timed_tail setting older _ whole timed = timed
timed_tail setting older _ (behind tail) timed = timed_tail setting older _ tail timed.0

-- the references never fall along the steps
pub reference_rises : (f : CallDone → Option ℕ) (setting : Setting) (older steps : List Step) (d : ℕ) → Tail older steps → AreTimed setting steps
    → reference_by f older d ≤ reference_by f steps d
reference_rises f setting older _ d whole timed = omega arith
reference_rises f setting older _ d (behind {x = s} {xs = earlier} tail) timed =
    let rest : reference_by f older d ≤ reference_by f earlier d = reference_rises f setting older earlier d tail timed.0 in
    let within : reference_by f earlier d ≤ latest_reference (seen_of earlier) = reference_within f setting earlier timed.0 d in
    let one : reference_by f earlier d ≤ reference_by f (s ∷ earlier) d =
    after_rises f s.act d (reference_of s.seen.event) (reference_by f earlier d) (past_in earlier d) (later within timed.1.goes_on) in
    omega (arith, rest, one)
  where
    later : {a b c : ℕ} → a ≤ b → b ≤ c → a ≤ c
    later p q = omega (arith, p, q)

-- at a mark the reference is that of the step
pub reference_at_mark : (f : CallDone → Option ℕ) (s : Step) (earlier : List Step) (d : ℕ) → IsMarked f s earlier d
    → reference_by f (s ∷ earlier) d ≡ reference_of s.seen.event
reference_at_mark f s earlier d m =
    ap (λ act. reference_after f (reference_of s.seen.event) act d (past_in earlier d) (reference_by f earlier d)) m.act
    ∙ ap (λ b. if b then map_or (past_in earlier d) (reference_by f earlier d)
    (λ y. map_or (f (did_by y m.call)) (reference_by f earlier d) (λ c. reference_of s.seen.event)) else reference_by f earlier d) (eq-eqb d d refl)
    ∙ ap (λ p. map_or p (reference_by f earlier d) (λ y. map_or (f (did_by y m.call)) (reference_by f earlier d) (λ c. reference_of s.seen.event))) m.there
    ∙ ap (λ o. map_or o (reference_by f earlier d) (λ c. reference_of s.seen.event)) m.told

-- and at a making too
pub reference_at_making : (f : CallDone → Option ℕ) (s : Step) (earlier : List Step) (d : ℕ) → makes_device s.act d ≡ true
    → reference_by f (s ∷ earlier) d ≡ reference_of s.seen.event
reference_at_making f s earlier d made = go s.act made
  where
    by : (b : Bool) → b ≡ true → (if b then reference_of s.seen.event else reference_by f earlier d) ≡ reference_of s.seen.event
    by true h = refl
    by false h = cc

    go : (act : Act) → makes_device act d ≡ true
        → reference_after f (reference_of s.seen.event) act d (past_in earlier d) (reference_by f earlier d) ≡ reference_of s.seen.event
    go (Makes m making) h = by (nat_eq m d) h
    go _ h = cc

-- no mark so far is later
pub mark_before : (f : CallDone → Option ℕ) (setting : Setting) (s : Step) (older steps : List Step) (d : ℕ) → Tail (s ∷ older) steps → AreTimed setting steps
    → IsMarked f s older d
    → reference_of s.seen.event ≤ reference_by f steps d
mark_before f setting s older steps d tail timed m =
    subst (λ r. r ≤ reference_by f steps d) (reference_at_mark f s older d m) (reference_rises f setting (s ∷ older) steps d tail timed)

-- an emission and each one before it (or where the device began to act) lie at least Low of the period apart
pub emissions_apart : (setting : Setting) (s : Step) (earlier : List Step) (d c : ℕ) (past : Past) → (rates_of setting.net d).ppm ≤ 1000000
    → IsTick setting s earlier d c past
    → (duty : Duty) → duty_now past ≡ Some duty → emits_at past c ≡ true → (first : Step) (older : List Step) → Tail (first ∷ older) earlier
    → IsMarked emits first older d
    → low (rates_of setting.net d) setting.net.params.period ≤ reference_of s.seen.event - reference_of first.seen.event
emissions_apart setting s earlier d c past ppm tick duty has sends first older tail m =
    let apart : low (rates_of setting.net d) duty.period ≤ reference_of s.seen.event - sent_in earlier d =
    emission_not_early setting s earlier d c past ppm tick duty has sends in
    let since : reference_of first.seen.event ≤ sent_in earlier d = mark_before emits setting first older earlier d tail tick.before m in
    let period : duty.period ≡ setting.net.params.period = (periods_in setting earlier tick.before d past tick.there).duty duty has in
    subst (λ p. low (rates_of setting.net d) p ≤ reference_of s.seen.event - reference_of first.seen.event) period (omega (arith, apart, since))
