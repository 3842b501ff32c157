-- Lemmas that several crates above share.
use Rattle.sd_files.specs.declared.command_error.CommandError.TheVariants as ended
use Rattle.std.specs.Prelude.{ℕ, List, Result, Ok, Err}
use Rattle.sd_plan.specs.topo.Network.{Network}
use Rattle.sd_checker.specs.declared.Verdict.{Verdict}
use Rattle.sd_checker.specs.declared.Verdict.TheVariants.{Accepted, Refused}
use Rattle.sd_files.specs.Answering.{Allowed}
use Rattle.sd_files.specs.Reasons.{refusal_line}
use Rattle.sd_files.specs.Writes.{IsAllowed}
use Rattle.sd_files.specs.declared.Status.{Status}
use Rattle.sd_files.specs.declared.Status.TheVariants.{InputRefused}
use Rattle.sd_files.specs.declared.command_error.Answer.{Answer}
use Rattle.sd_files.specs.declared.command_error.CommandError.{CommandError}
use Rattle.sd_files.specs.planfiles.PlanFiles.{AfterVerdict}

-- what was made may be written also where more may be
pub makes_more : (Writes More : Allowed) (made : Result Answer CommandError) → ((bytes : List ℕ) (status : Status) → Writes bytes status → More bytes status)
    → IsAllowed Writes made → IsAllowed More made
makes_more Writes More (Ok answer) more makes = more answer.text.items answer.status makes
makes_more Writes More (Err (ended.Refused why)) more makes = more (refusal_line why) InputRefused makes
makes_more Writes More (Err ended.Shelf) more makes = tt
makes_more Writes More (Err ended.Memory) more makes = tt

pub verdict_more : (net : Network) (place : ℕ) (verdict : Verdict) (Then More : Allowed) (bytes : List ℕ) (status : Status)
    → (Then bytes status → More bytes status)
    → AfterVerdict net place verdict Then bytes status
    → AfterVerdict net place verdict More bytes status
verdict_more net place Accepted Then More bytes status more written = more written
verdict_more net place (Refused breach) Then More bytes status more written = written
