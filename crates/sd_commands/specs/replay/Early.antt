-- What is written where a command ends before its schedule.
use Rattle.std.specs.Prelude.{ℕ, List}
use Rattle.sd_files.specs.Answering.{Allowed, After}
use Rattle.sd_files.specs.Inputs.{topology_of}
use Rattle.sd_files.specs.planfiles.PlanFiles.{AfterAllPlans}
use Rattle.sd_files.specs.planfiles.Refusing.{Nothing}

-- what ends a command before its schedule
abbrev pub EndsBefore : (topology : List ℕ) (plans : List (List ℕ)) → Allowed
EndsBefore topology plans bytes status = After (topology_of topology) (λ net. AfterAllPlans net plans Nothing) bytes status
