-- What `drill` writes and answers for the texts of a topology and a plan, and a budget.
use Rattle.std.specs.Prelude.{◌≡◌, ℕ, List}
use Rattle.sd_plan.specs.topo.Network.{Network}
use Rattle.sd_plan.specs.declared.Plan.{Plan}
use Rattle.sd_drill.specs.Printed.{IsDrill as IsDrillOf, IsLinesOf}
use Rattle.sd_drill.specs.declared.Budget.{Budget}
use Rattle.sd_io.specs.outside.Pieces.{Pieces}
use Rattle.sd_drill_text.specs.Steps.{TextsInSteps}
use Rattle.sd_files.specs.Answering.{After, Allowed}
use Rattle.sd_files.specs.Inputs.{topology_of}
use Rattle.sd_files.specs.declared.Status.{Status}
use Rattle.sd_files.specs.declared.Status.TheVariants.{Done}
use Rattle.sd_files.specs.planfiles.PlanFiles.{AfterPlan}
use Rattle.sd_top.specs.Checks.{IsRightPlan}

-- the drill of an accepted plan
abbrev pub IsDrilled : Network → Budget → Plan → Allowed
IsDrilled net budget plan bytes status = IsDrillOf net plan budget bytes × (status ≡ Done)

-- what `drill` may write
abbrev pub IsDrill : List ℕ → List ℕ → Budget → Allowed
IsDrill topology plan budget bytes status = After (topology_of topology) (λ net. AfterPlan net 1 plan (IsDrilled net budget)) bytes status

-- by which writes the drill of the texts is written
abbrev pub DrillInSteps : List ℕ → List ℕ → Budget → Pieces → Type 0
DrillInSteps = TextsInSteps IsLinesOf

-- an accepted plan is drilled to the end
abbrev pub DrillCompletes : Type 0
DrillCompletes = (topology plan : List ℕ) (budget : Budget) → IsRightPlan topology plan → (bytes : List ℕ) (status : Status)
    → IsDrill topology plan budget bytes status → status ≡ Done
