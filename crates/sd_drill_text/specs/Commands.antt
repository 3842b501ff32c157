-- What a command writes and answers that prints a plan by domains, for the texts of a topology and a plan, and a budget.
use Rattle.std.specs.Prelude.{◌≡◌, ℕ, List}
use Rattle.sd_plan.specs.topo.Network.{Network}
use Rattle.sd_plan.specs.declared.Plan.{Plan}
use Rattle.sd_drill.specs.declared.Budget.{Budget}
use Rattle.sd_files.specs.Answering.{After, Allowed, InWrites, MayWrite}
use Rattle.sd_files.specs.Inputs.{topology_of}
use Rattle.sd_files.specs.declared.Status.TheVariants.{Done}
use Rattle.sd_files.specs.planfiles.PlanFiles.{AfterPlan}
use Rattle.sd_drill_text.specs.Steps.{LinesOf, TextsInSteps}

-- what the lines of all domains are, with the last line
abbrev pub AllOf : Type 1
AllOf = Network → Plan → Budget → List ℕ → Type 0

-- what is written of an accepted plan
abbrev pub IsPrinted : AllOf → Network → Budget → Plan → Allowed
IsPrinted Says net budget plan bytes status = Says net plan budget bytes × (status ≡ Done)

-- what is printed of the texts
abbrev pub TextsPrinted : AllOf → List ℕ → List ℕ → Budget → Allowed
TextsPrinted Says topology plan budget bytes status = After (topology_of topology) (λ net. AfterPlan net 1 plan (IsPrinted Says net budget)) bytes status

-- what such a command may write, write by write
abbrev pub ByDomains : LinesOf → AllOf → List ℕ → List ℕ → Budget → MayWrite
ByDomains Lines Says topology plan budget = InWrites (TextsInSteps Lines topology plan budget) (TextsPrinted Says topology plan budget)
