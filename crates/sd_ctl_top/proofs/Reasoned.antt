-- What is told of a reason is what may be written, and a reason means that there is no plan.
use Rattle.std.proofs.Common.{◌≡◌, Option, Result, Ok, Err}
use Rattle.std.specs.Prelude.{IfErr, IfOk}
use Rattle.sd_plan.specs.topo.Network.{Network}
use Rattle.sd_files.specs.Writes.{IsAllowed}
use Rattle.sd_files.specs.declared.command_error.Answer.{Answer}
use Rattle.sd_files.specs.declared.command_error.CommandError.{CommandError}
use Rattle.sd_files.specs.declared.command_error.CommandError.TheVariants as ended
use Rattle.sd_why.specs.Reasons.{IsWhy, kind_of}
use Rattle.sd_why.specs.Text.{why_text}
use Rattle.sd_why.specs.declared.Reason.{Reason}
use Rattle.sd_why.proofs.Laws.{no_plan}
use Rattle.sd_ctl_top.specs.Reasons.{IsReason, ReasonsAreRight, why_status}

-- an answer with the text and the status of the first reason
pub told_makes : (net : Network) (found : Option Reason) (made : Result Answer CommandError) → IsWhy net found
    → IfOk made (λ answer. answer.text.items ≡ why_text net found)
    → IfOk made (λ answer. answer.status ≡ why_status found) → IfErr made (λ stop. stop ≡ ended.Memory) → IsAllowed (IsReason net) made
told_makes net found (Ok answer) is text status only = (found, is, text, status)
told_makes net found (Err ended.Memory) is text status only = tt
told_makes net found (Err ended.Shelf) is text status only = cc
told_makes net found (Err (ended.Refused why)) is text status only = cc

-- by the kind that holds
pub reasons_are_right : ReasonsAreRight
reasons_are_right net reason is = no_plan net (kind_of reason) is.is.holds
