-- What holds of the answers of `case`, whatever a run does.
use Rattle.std.specs.Prelude.{◌≡◌, ◌⊎◌, ℕ, List}
use Rattle.sd_plan.specs.declared.Plan.{Plan}
use Rattle.sd_plan.specs.Plans.{nothing_absent}
use Rattle.sd_checker.specs.Conditions.{IsAccepted}
use Rattle.sd_planner.specs.Greedy.{IsGreedy}
use Rattle.sd_gen.specs.fabric.Fabrics.{fabric, second_absent}
use Rattle.sd_files.specs.declared.Status.{Status}
use Rattle.sd_files.specs.declared.Status.TheVariants.{Broken, Done}
use Rattle.sd_gen.specs.command.Cases.{IsCase}

-- the checker accepts both greedy plans
pub record IsRightCase (leaves spines : ℕ) : Type 0 where
  pub first : Plan
  pub second : Plan
  pub first_greedy : IsGreedy (fabric leaves spines) 0 nothing_absent first
  pub second_greedy : IsGreedy (fabric leaves spines) 1 second_absent second
  pub first_accepted : IsAccepted (fabric leaves spines) first
  pub second_accepted : IsAccepted (fabric leaves spines) second

-- then the case is replayed to its end
abbrev pub CaseCompletes : Type 0
CaseCompletes =
    (number leaves spines : ℕ) → IsRightCase leaves spines → (bytes : List ℕ) (status : Status) → IsCase number leaves spines bytes status
    → (status ≡ Done) ⊎ (status ≡ Broken)
