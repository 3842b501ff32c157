-- What the rules admit shows that each of their causes is absent. Each accepted event is admitted, so histories and runs are; and what the rules
-- admit of at most 2 ^ 26 events is a history.
use Rattle.std.specs.Prelude.{◌≡◌, ◌≤◌, ◌^◌, suc, Bool, true, false, ◌||◌, not, List, [], ◌∷◌, length, find, None, option_map, refl}
use Rattle.std.specs.List.{list_all}
use Rattle.std.proofs.Common.{arith, ◌∙◌, ap}
use Rattle.std.proofs.lemmas.Bool.{and_parts, and_from, lt-leb}
use Rattle.std.proofs.lemmas.List.{length-map}
use Rattle.sd_device.specs.declared.node.Node.{Ghosts}
use Rattle.sd_sched.specs.declared.Event.{Event}
use Rattle.sd_history.specs.declared.ApplyFault.{ApplyFault}
use Rattle.sd_history.specs.World.{Setting}
use Rattle.sd_history.specs.Steps.{Step, seen_of}
use Rattle.sd_history.specs.Refusals.{causes, refusal, too_many}
use Rattle.sd_history.specs.Chronicle.{chronicle, IsHistory}
use Rattle.sd_history.specs.Nodes.{NodeStep, steps_of, IsRun}
use Rattle.sd_history.specs.Admitted.{is_count, Admits, IsAdmitted, IsAdmittedRun}
use Rattle.sd_history.proofs.Among.{Among, passes}

-- One event

absent : (present counts : Bool) → counts ≡ false → (not present || counts) ≡ true → present ≡ false
absent true true rule holds = cc
absent true false rule holds = cc
absent false counts rule holds = refl

-- no cause of the rules holds
pub rule_holds : (setting : Setting) (steps : List Step) (e : Event) (c : ApplyFault × Bool) → Admits setting steps e → Among c (causes setting steps e)
    → is_count c.0 ≡ false → c.1 ≡ false
rule_holds setting steps e c admits among rule = absent c.1 (is_count c.0) rule (passes (λ cause. not cause.1 || is_count cause.0) among admits)

none_holds_but : (xs : List (ApplyFault × Bool)) → option_map (λ c. c.0) (find (λ c. c.1) xs) ≡ None → list_all (λ c. not c.1 || is_count c.0) xs ≡ true
none_holds_but [] none = refl
none_holds_but (x ∷ xs) none = by x.1 x.0 (none_holds_but xs) none
  where
    by : (b : Bool) (f : ApplyFault) → (option_map (λ c. c.0) (find (λ c. c.1) xs) ≡ None → list_all (λ c. not c.1 || is_count c.0) xs ≡ true)
        → option_map (λ c. c.0) (find (λ c. c.1) ((f, b) ∷ xs)) ≡ None → list_all (λ c. not c.1 || is_count c.0) ((f, b) ∷ xs) ≡ true
    by true f rest none' = cc
    by false f rest none' = rest none'

-- an accepted event is admitted
pub accepted_is_admitted : (setting : Setting) (steps : List Step) (e : Event) → refusal setting steps e ≡ None → Admits setting steps e
accepted_is_admitted setting steps e none = none_holds_but (causes setting steps e) none

none_is_found : (xs : List (ApplyFault × Bool)) → list_all (λ c. not c.1 || is_count c.0) xs ≡ true → list_all (λ c. not (is_count c.0) || not c.1) xs ≡ true
    → option_map (λ c. c.0) (find (λ c. c.1) xs) ≡ None
none_is_found [] rules count = refl
none_is_found (x ∷ xs) rules count =
    by x.1 x.0 (and_parts (not x.1 || is_count x.0) (list_all (λ c. not c.1 || is_count c.0) xs) rules)
    (and_parts (not (is_count x.0) || not x.1) (list_all (λ c. not (is_count c.0) || not c.1) xs) count) (none_is_found xs)
  where
    neither : (counts : Bool) → (not true || counts) ≡ true → (not counts || not true) ≡ true → true ≡ false
    neither true rule count' = cc
    neither false rule count' = cc

    by : (b : Bool) (f : ApplyFault)
        → ((not b || is_count f) ≡ true) × (list_all (λ c. not c.1 || is_count c.0) xs ≡ true)
        → ((not (is_count f) || not b) ≡ true) × (list_all (λ c. not (is_count c.0) || not c.1) xs ≡ true)
        → (list_all (λ c. not c.1 || is_count c.0) xs ≡ true → list_all (λ c. not (is_count c.0) || not c.1) xs ≡ true
        → option_map (λ c. c.0) (find (λ c. c.1) xs) ≡ None)
        → option_map (λ c. c.0) (find (λ c. c.1) ((f, b) ∷ xs)) ≡ None
    by true f rule count' rest = let no : true ≡ false = neither (is_count f) rule.0 count'.0 in cc
    by false f rule count' rest = rest rule.1 count'.1

-- an event that the rules admit is accepted, while there may be one more
pub admitted_is_accepted : (setting : Setting) (steps : List Step) (e : Event) → Admits setting steps e → too_many (seen_of steps) ≡ false
    → refusal setting steps e ≡ None
admitted_is_accepted setting steps e admits few =
    none_is_found (causes setting steps e) admits (and_from (not (too_many (seen_of steps))) true (ap not few) refl)

-- Whole histories

-- a history is admitted
pub history_is_admitted : (setting : Setting) (history : List Event) → IsHistory setting history → IsAdmitted setting history
history_is_admitted setting [] is = tt
history_is_admitted setting (e ∷ earlier) is =
    (history_is_admitted setting earlier is.0, accepted_is_admitted setting (chronicle setting earlier) e is.1)

pub length-chronicle : (setting : Setting) (history : List Event) → length (chronicle setting history) ≡ length history
length-chronicle setting [] = refl
length-chronicle setting (e ∷ earlier) = ap suc (length-chronicle setting earlier)

-- what the rules admit is a history, up to 2 ^ 26 events
pub admitted_is_history : (setting : Setting) (history : List Event) → IsAdmitted setting history → length history ≤ 2 ^ 26 → IsHistory setting history
admitted_is_history setting [] is few = tt
admitted_is_history setting (e ∷ earlier) is few = (
  admitted_is_history setting earlier is.0 (omega (arith, few)),
  admitted_is_accepted setting (chronicle setting earlier) e is.1 (lt-leb (2 ^ 26) (length (seen_of (chronicle setting earlier))) (omega (arith, few, seen))),
)
  where
    seen : length (seen_of (chronicle setting earlier)) ≡ length earlier
    seen = length-map (chronicle setting earlier) (λ (x : Step). x.seen) ∙ length-chronicle setting earlier

-- a run of a fleet is admitted
pub run_is_admitted : {N : Type 0} (g : Ghosts N) (setting : Setting) (run : List (NodeStep N)) → IsRun g setting run → IsAdmittedRun g setting run
run_is_admitted g setting [] is = tt
run_is_admitted g setting (x ∷ earlier) is =
    (run_is_admitted g setting earlier is.0, accepted_is_admitted setting (steps_of earlier) x.step.seen.event is.1, is.2)
