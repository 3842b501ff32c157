-- What `check` writes and answers for the texts of a topology and a plan.
use Rattle.std.specs.Prelude.{◌≡◌, ℕ, List, Ok}
use Rattle.sd_plan.specs.topo.Network.{Network}
use Rattle.sd_plan.specs.declared.Plan.{Plan}
use Rattle.sd_checker.specs.Text.{accepted_line, refused_line}
use Rattle.sd_checker.specs.Verdicts.{IsVerdict}
use Rattle.sd_checker.specs.Conditions.{IsAccepted}
use Rattle.sd_checker.specs.declared.Verdict.{Verdict}
use Rattle.sd_checker.specs.declared.Verdict.TheVariants.{Accepted, Refused}
use Rattle.sd_files.specs.Answering.{Allowed, After}
use Rattle.sd_files.specs.Inputs.{topology_of, plan_in_file}
use Rattle.sd_files.specs.declared.Status.{Status}
use Rattle.sd_files.specs.declared.Status.TheVariants.{Done, PlanRefused}

-- the line of a verdict, and its status
abbrev pub verdict_text : Network → Verdict → List ℕ
verdict_text net Accepted = accepted_line net
verdict_text net (Refused breach) = refused_line net 1 breach

-- the status of a verdict
abbrev pub verdict_status : Verdict → Status
verdict_status Accepted = Done
verdict_status (Refused breach) = PlanRefused

-- the line of the plan's verdict
abbrev pub IsJudged : Network → Plan → Allowed
IsJudged net plan bytes status = (verdict : Verdict) × IsVerdict net plan verdict × (bytes ≡ verdict_text net verdict) × (status ≡ verdict_status verdict)

-- what `check` may write
abbrev pub IsCheck : List ℕ → List ℕ → Allowed
IsCheck topology plan bytes status = After (topology_of topology) (λ net. After (plan_in_file net 1 plan) (IsJudged net)) bytes status

-- the files of a plan that is accepted
pub record IsRightPlan (topology text : List ℕ) : Type 0 where
  pub network : Network
  pub plan : Plan
  pub has_network : topology_of topology ≡ Ok network
  pub has_plan : plan_in_file network 1 text ≡ Ok plan
  pub accepted : IsAccepted network plan

-- they are told so
abbrev pub CheckCompletes : Type 0
CheckCompletes = (topology plan : List ℕ) → IsRightPlan topology plan → (bytes : List ℕ) (status : Status) → IsCheck topology plan bytes status → status ≡ Done
