-- What `resume` writes and answers for the texts of its files.
use Rattle.std.specs.Prelude.{ℕ, List, take, drop, codes}
use Rattle.sd_plan.specs.topo.Network.{Network}
use Rattle.sd_plan.specs.declared.Plan.{Plan}
use Rattle.sd_history.specs.World.{setting_over}
use Rattle.sd_files.specs.Answering.{Allowed, After}
use Rattle.sd_files.specs.Inputs.{topology_of}
use Rattle.sd_files.specs.planfiles.PlanFiles.{AfterAllPlans}
use Rattle.sd_resume.specs.command.Parts.{AfterPart, part_work}
use Rattle.sd_resume.specs.command.Compared.{IsCompared}

-- the schedule over all plans, and then the opening over those after the first `left`
abbrev pub AfterBoth : Network → List Plan → (left : ℕ) → (schedule opening : List ℕ) → Allowed
AfterBoth net plans left schedule opening bytes status =
    AfterPart (part_work (codes "schedule") (setting_over net plans)) schedule
    (λ one. AfterPart (part_work (codes "opening") (setting_over net (drop left plans))) opening
    (λ other. IsCompared net (take left plans) (drop left plans) one other)) bytes status

-- `resume`: the topology and the plans, and then both
abbrev pub IsResuming : (topology : List ℕ) (plans : List (List ℕ)) (left : ℕ) (schedule opening : List ℕ) → Allowed
IsResuming topology plans left schedule opening bytes status =
    After (topology_of topology) (λ net. AfterAllPlans net plans (λ read. AfterBoth net read left schedule opening)) bytes status
