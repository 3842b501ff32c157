-- What is written of a plan that was judged.
use Rattle.std.proofs.Common.{◌≡◌, Result, Ok, Err}
use Rattle.sd_plan.specs.topo.Network.{Network}
use Rattle.sd_plan.specs.declared.Plan.{Plan}
use Rattle.sd_files.specs.Answering.{Allowed}
use Rattle.sd_checker.specs.Text.{refused_line}
use Rattle.sd_checker.specs.Verdicts.{IsVerdict}
use Rattle.sd_checker.specs.declared.Breach.{Breach}
use Rattle.sd_checker.specs.declared.Verdict.TheVariants.{Accepted, Refused}
use Rattle.sd_files.specs.Writes.{IsAllowed}
use Rattle.sd_files.specs.declared.Status.TheVariants.{PlanRefused}
use Rattle.sd_files.specs.declared.command_error.Answer.{Answer}
use Rattle.sd_files.specs.declared.command_error.CommandError.{CommandError}
use Rattle.sd_files.specs.declared.command_error.CommandError.TheVariants as ended
use Rattle.sd_files.specs.planfiles.PlanFiles.{AfterJudged}

module _ (net : Network) (plan : Plan) (Then : Allowed) where
  -- what may be written of an accepted plan
  pub accepted_makes : (made : Result Answer CommandError) → IsVerdict net plan Accepted → IsAllowed Then made → IsAllowed (AfterJudged net 1 plan Then) made
  accepted_makes (Ok answer) is makes = (Accepted, is, makes)
  accepted_makes (Err (ended.Refused why)) is makes = (Accepted, is, makes)
  accepted_makes (Err ended.Shelf) is makes = tt
  accepted_makes (Err ended.Memory) is makes = tt

  -- or the line of the breach
  pub refused_makes : (breach : Breach) (answer : Answer) → IsVerdict net plan (Refused breach) → answer.text.items ≡ refused_line net 1 breach
      → answer.status ≡ PlanRefused → IsAllowed (AfterJudged net 1 plan Then) (Ok answer)
  refused_makes breach answer is text status = (Refused breach, is, (text, status))
