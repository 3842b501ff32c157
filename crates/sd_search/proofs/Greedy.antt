-- What it means for a search that the greedy rule fails.
use Rattle.std.proofs.Common.{◌≡◌, ℕ, Option, None, Some, inl, inr, subst}
use Rattle.sd_plan.specs.topo.Network.{Network}
use Rattle.sd_plan.specs.declared.Absent.{Absent}
use Rattle.sd_plan.specs.declared.Plan.{Plan}
use Rattle.sd_checker.proofs.Exclusive.{accepted_unbroken}
use Rattle.sd_planner.proofs.Single.{same_greedy}
use Rattle.sd_checker.specs.Verdicts.{IsBreach}
use Rattle.sd_checker.specs.declared.Breach.{Breach}
use Rattle.sd_planner.specs.Greedy.{IsGreedy}
use Rattle.sd_planner.specs.Planning.{IsPlanned}
use Rattle.sd_planner.specs.declared.Planned.TheVariants as planned
use Rattle.sd_drill.specs.declared.Budget.{Budget}
use Rattle.sd_search.specs.Finds.{BeatsGreedy, FailsFrom, GreedyFails, IsAsGood, IsFound, IsJudged, IsNoneWorse, IsTrial}
use Rattle.sd_search.specs.declared.found.Found.{Found}
use Rattle.sd_search.specs.declared.found.Found.TheVariants as found

-- the greedy plan from a root is one, so a breach of it speaks for all
pub fails_from : (net : Network) (absent : Absent) (root : ℕ) (plan : Plan) (breach : Breach) → IsGreedy net root absent plan → IsBreach net plan breach
    → FailsFrom net absent root
fails_from net absent root plan breach greedy breached other also accepted =
    accepted_unbroken net other breach accepted (subst (λ (p : Plan). IsBreach net p breach) (same_greedy net root absent plan other greedy also) breached)

-- the trial of a root where the planner refuses
pub tried_none : (net : Network) (absent : Absent) (root : ℕ) (plan : Plan) (breach : Breach) → IsPlanned net root absent (planned.NoPlan plan breach)
    → IsTrial net absent (Some root) None
tried_none net absent root plan breach (greedy, fits, breached) = fails_from net absent root plan breach greedy breached

-- what is judged where the greedy rule fails
pub none_either : (net : Network) (absent : Absent) (root : Option ℕ) (what : Found) → GreedyFails net absent root → IsJudged net absent root what
    → IsFound net absent root what
none_either net absent root (found.Plan plan) fails judged = judged
none_either net absent root (found.NoPlan plan breach) fails judged = (judged, fails)

-- no greedy plan is better where none is accepted
pub none_worse : (net : Network) (absent : Absent) (root : Option ℕ) (budget : Budget) (what : Found) → GreedyFails net absent root
    → IsNoneWorse net absent root budget what
none_worse net absent root budget (found.Plan plan) fails = inl fails
none_worse net absent root budget (found.NoPlan plan breach) fails = fails

beats : (net : Network) (absent : Absent) (root : Option ℕ) (budget : Budget) (first plan : Plan) → IsTrial net absent root (Some first)
    → IsAsGood net budget first plan → BeatsGreedy net absent root budget plan
beats net absent root budget first plan (wanted, accepted, greedy) good = inr (first, greedy, accepted, good)

-- a plan that is as good as the first greedy one that is accepted
pub as_good : (net : Network) (absent : Absent) (root : Option ℕ) (budget : Budget) (trial : Option Plan) (first plan : Plan) → trial ≡ Some first
    → IsTrial net absent root trial → IsAsGood net budget first plan → BeatsGreedy net absent root budget plan
as_good net absent root budget trial first plan is tried good =
    beats net absent root budget first plan (subst (λ (t : Option Plan). IsTrial net absent root t) is tried) good
