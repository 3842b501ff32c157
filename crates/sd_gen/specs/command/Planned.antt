-- The plans of a case that were made, and why there are none.
use Rattle.std.specs.Prelude.{◌≡◌, ℕ, List, [], ◌∷◌}
use Rattle.sd_plan.specs.topo.Network.{Network}
use Rattle.sd_plan.specs.Plans.{Fits, nothing_absent}
use Rattle.sd_plan.specs.declared.Absent.{Absent}
use Rattle.sd_plan.specs.declared.Plan.{Plan}
use Rattle.sd_checker.specs.Conditions.{IsAccepted}
use Rattle.sd_planner.specs.Greedy.{IsGreedy}
use Rattle.sd_gen.specs.fabric.Fabrics.{second_absent}
use Rattle.sd_files.specs.declared.Status.TheVariants.{PlanRefused}
use Rattle.sd_files.specs.declared.command_error.CommandError.TheVariants.{Memory}
use Rattle.sd_files.specs.declared.planfiles.setup_error.SetupError.{SetupError}
use Rattle.sd_files.specs.declared.planfiles.setup_error.SetupError.TheVariants.{Answered, Stopped}

-- the plan is the greedy one from the root without what is absent, and it is accepted
pub record IsMade (net : Network) (root : ℕ) (absent : Absent) (plan : Plan) : Type 0 where
  pub greedy : IsGreedy net root absent plan
  pub fits : Fits net plan
  pub accepted : IsAccepted net plan

-- both plans of a case
pub record AreMade (net : Network) (plans : List Plan) : Type 0 where
  pub first : Plan
  pub second : Plan
  pub are : plans ≡ first ∷ second ∷ []
  pub first_made : IsMade net 0 nothing_absent first
  pub second_made : IsMade net 1 second_absent second

-- a plan is refused, or memory was wanting
abbrev pub IsSetupError : SetupError → Type 0
IsSetupError (Answered answer) = answer.status ≡ PlanRefused
IsSetupError (Stopped why) = why ≡ Memory
