-- What the checker and the planner answer is what may be written.
use Rattle.std.proofs.Common.{◌≡◌, ℕ, List, Result, Ok, Err}
use Rattle.std.specs.Prelude.{IfErr, IfOk}
use Rattle.sd_plan.specs.topo.Network.{Network}
use Rattle.sd_plan.specs.Plans.{Fits}
use Rattle.sd_plan.specs.declared.Absent.{Absent}
use Rattle.sd_plan.specs.declared.Plan.{Plan}
use Rattle.sd_checker.specs.Verdicts.{IsVerdict}
use Rattle.sd_checker.specs.declared.Verdict.{Verdict}
use Rattle.sd_checker.specs.declared.Verdict.TheVariants.{Accepted, Refused}
use Rattle.sd_top.specs.Checks.{IsJudged, verdict_text, verdict_status}
use Rattle.sd_planner.specs.Planning.{IsPlanned}
use Rattle.sd_planner.specs.declared.Planned.{Planned}
use Rattle.sd_planner.specs.declared.Planned.TheVariants as planned
use Rattle.sd_top.specs.PlannedAnswers.{IfPlan, text_of_planned, status_of_planned}
use Rattle.sd_top.specs.Plannings.{IsPlanning}
use Rattle.sd_files.specs.Writes.{IsAllowed}
use Rattle.sd_files.specs.declared.command_error.CommandError.{CommandError}
use Rattle.sd_files.specs.declared.command_error.CommandError.TheVariants as ended
use Rattle.sd_files.specs.declared.Status.{Status}
use Rattle.sd_files.specs.declared.command_error.Answer.{Answer}

-- the plan fits the network
pub planned_fits : (net : Network) (root : ℕ) (absent : Absent) (what : Planned) → IsPlanned net root absent what → IfPlan (Fits net) what
planned_fits net root absent (planned.Plan plan) (greedy, fits, says) = fits
planned_fits net root absent (planned.NoPlan plan breach) is = tt

planning_is : (net : Network) (root : ℕ) (absent : Absent) (what : Planned) (bytes : List ℕ) (status : Status) → IsPlanned net root absent what
    → bytes ≡ text_of_planned net what → status ≡ status_of_planned what
    → IsPlanning net root absent bytes status
planning_is net root absent (planned.Plan plan) bytes status (greedy, fits, says) text answered = (plan, Accepted, greedy, says, text, answered)
planning_is net root absent (planned.NoPlan plan breach) bytes status (greedy, fits, says) text answered = (plan, Refused breach, greedy, says, text, answered)

-- an answer with the text and the status of what the planner answers
pub planning_makes : (net : Network) (root : ℕ) (absent : Absent) (what : Planned) (made : Result Answer CommandError) → IsPlanned net root absent what
    → IfOk made (λ answer. answer.text.items ≡ text_of_planned net what)
    → IfOk made (λ answer. answer.status ≡ status_of_planned what) → IfErr made (λ why. why ≡ ended.Memory) → IsAllowed (IsPlanning net root absent) made
planning_makes net root absent what (Ok answer) is text status only = planning_is net root absent what answer.text.items answer.status is text status
planning_makes net root absent what (Err ended.Memory) is text status only = tt
planning_makes net root absent what (Err ended.Shelf) is text status only = tt
planning_makes net root absent what (Err (ended.Refused why)) is text status only = cc

judged_is : (net : Network) (plan : Plan) (verdict : Verdict) (bytes : List ℕ) (status : Status) → IsVerdict net plan verdict → bytes ≡ verdict_text net verdict
    → status ≡ verdict_status verdict → IsJudged net plan bytes status
judged_is net plan verdict bytes status says text answered = (verdict, says, text, answered)

-- an answer with the text and the status of a verdict
pub verdict_makes : (net : Network) (plan : Plan) (verdict : Verdict) (made : Result Answer CommandError) → IsVerdict net plan verdict
    → IfOk made (λ answer. answer.text.items ≡ verdict_text net verdict)
    → IfOk made (λ answer. answer.status ≡ verdict_status verdict) → IfErr made (λ why. why ≡ ended.Memory) → IsAllowed (IsJudged net plan) made
verdict_makes net plan verdict (Ok answer) says text status only = judged_is net plan verdict answer.text.items answer.status says text status
verdict_makes net plan verdict (Err ended.Memory) says text status only = tt
verdict_makes net plan verdict (Err ended.Shelf) says text status only = tt
verdict_makes net plan verdict (Err (ended.Refused why)) says text status only = cc
