-- What a search ends with, whatever it tried.
use Rattle.std.specs.Prelude.{◌≡◌, ℕ, ◌+◌, ◌*◌, ◌⊎◌, All, slice_get, take, Option, None, Some, IfSome}
use Rattle.sd_plan.specs.topo.Network.{Network, greatest_up}
use Rattle.sd_plan.specs.Plans.{Fits}
use Rattle.sd_plan.specs.declared.Absent.{Absent}
use Rattle.sd_plan.specs.declared.Plan.{Plan}
use Rattle.sd_checker.specs.check_root.Timing.{silence}
use Rattle.sd_checker.specs.Verdicts.{IsBreach}
use Rattle.sd_checker.specs.Conditions.{IsAccepted}
use Rattle.sd_planner.specs.Greedy.{IsGreedy, IsLeastWait}
use Rattle.sd_drill.specs.declared.Budget.{Budget}
use Rattle.sd_search.specs.Ratings.{IsNoWorse}
use Rattle.sd_search.specs.declared.found.Found.{Found}
use Rattle.sd_search.specs.declared.found.Found.TheVariants as found

-- the waits are the least that the timing condition allows, as those of the greedy plan are
pub record HasLeastWaits (net : Network) (plan : Plan) : Type 0 where
  pub first : IsLeastWait net (2 * (silence net + net.params.tick)) plan.wait_first
  pub second : IsLeastWait net (2 * (silence net + net.params.tick)) plan.wait_second
  pub ordinary : IsLeastWait net (greatest_up net plan.wait_first + greatest_up net plan.wait_second + 6 * (silence net + net.params.tick)) plan.wait

-- the plan fits the network, leaves out just what is absent, has the root that is given, if one is, and the least waits
pub record IsWanted (net : Network) (absent : Absent) (root : Option ℕ) (plan : Plan) : Type 0 where
  pub fits : Fits net plan
  pub left_out : plan.absent ≡ absent
  pub from_root : IfSome root (λ r. plan.root ≡ r)
  pub waits : HasLeastWaits net plan

-- the checker refuses the greedy plan from this root
abbrev pub FailsFrom : Network → Absent → ℕ → Type 0
FailsFrom net absent root = (plan : Plan) → IsGreedy net root absent plan → ¬ IsAccepted net plan

-- it does so for the root that is given, or else for each candidate
abbrev pub GreedyFails : Network → Absent → Option ℕ → Type 0
GreedyFails net absent (Some root) = FailsFrom net absent root
GreedyFails net absent None = All (FailsFrom net absent) net.roots

-- a wanted plan that is accepted; or one that is refused, with its breach
abbrev pub IsJudged : Network → Absent → Option ℕ → Found → Type 0
IsJudged net absent root (found.Plan plan) = IsWanted net absent root plan × IsAccepted net plan
IsJudged net absent root (found.NoPlan plan breach) = IsWanted net absent root plan × IsBreach net plan breach

-- a wanted plan that is accepted; or one that is refused, with its breach, and then no greedy plan is accepted either
abbrev pub IsFound : Network → Absent → Option ℕ → Found → Type 0
IsFound net absent root (found.Plan plan) = IsJudged net absent root (found.Plan plan)
IsFound net absent root (found.NoPlan plan breach) = IsJudged net absent root (found.NoPlan plan breach) × GreedyFails net absent root

-- the greedy plan from the root that is given, or else from the first candidate from which it is accepted
abbrev pub IsFirstGreedy : Network → Absent → Option ℕ → Plan → Type 0
IsFirstGreedy net absent (Some root) plan = IsGreedy net root absent plan
IsFirstGreedy net absent None plan =
    (k : ℕ) × (root : ℕ) × (slice_get net.roots k ≡ Some root) × All (FailsFrom net absent) (take k net.roots) × IsGreedy net root absent plan

-- that plan, which is wanted and accepted; or the greedy rule fails
abbrev pub IsTrial : Network → Absent → Option ℕ → Option Plan → Type 0
IsTrial net absent root (Some plan) = IsWanted net absent root plan × IsAccepted net plan × IsFirstGreedy net absent root plan
IsTrial net absent root None = GreedyFails net absent root

-- the plan is another one itself, or no worse by the drill
abbrev pub IsAsGood : Network → Budget → Plan → Plan → Type 0
IsAsGood net budget other plan = (plan ≡ other) ⊎ IsNoWorse net budget other plan

-- the greedy rule fails, or the plan is as good as the first greedy one that is accepted
abbrev pub BeatsGreedy : Network → Absent → Option ℕ → Budget → Plan → Type 0
BeatsGreedy net absent root budget plan =
    GreedyFails net absent root ⊎ ((greedy : Plan) × IsFirstGreedy net absent root greedy × IsAccepted net greedy × IsAsGood net budget greedy plan)

-- a plan that is found is as good as the first greedy one that is accepted, if one is
abbrev pub IsNoneWorse : Network → Absent → Option ℕ → Budget → Found → Type 0
IsNoneWorse net absent root budget (found.Plan plan) = BeatsGreedy net absent root budget plan
IsNoneWorse net absent root budget (found.NoPlan plan breach) = GreedyFails net absent root
