-- What may be written over the texts of a topology, of plans and of a schedule by a work over them.
use Rattle.std.specs.Prelude.{ℕ, List}
use Rattle.sd_sched.specs.declared.Event.{Event}
use Rattle.sd_history.specs.World.{Setting}
use Rattle.sd_files.specs.Answering.{Allowed, After}
use Rattle.sd_files.specs.Inputs.{topology_of}
use Rattle.sd_files.specs.planfiles.PlanFiles.{AfterAllPlans}
use Rattle.sd_files.specs.work.Works.{Work, IsOutcome}

-- the line of a file that is refused, or the outcome of the schedule over the network and the accepted plans
abbrev pub IsRunOf : (Setting → Work Event) → (topology : List ℕ) (plans : List (List ℕ)) (schedule : List ℕ) → Allowed
IsRunOf work topology plans schedule bytes status =
    After (topology_of topology) (λ net. AfterAllPlans net plans (λ accepted. IsOutcome (work (record { net = net; plans = accepted })) schedule)) bytes status
