-- What a search finds is what may be written.
use Rattle.std.proofs.Common.{◌≡◌, ℕ, Option, Result, Ok, Err}
use Rattle.std.specs.Prelude.{IfErr, IfOk}
use Rattle.sd_plan.specs.topo.Network.{Network}
use Rattle.sd_plan.specs.declared.Absent.{Absent}
use Rattle.sd_files.specs.Writes.{IsAllowed}
use Rattle.sd_files.specs.declared.command_error.Answer.{Answer}
use Rattle.sd_files.specs.declared.command_error.CommandError.{CommandError}
use Rattle.sd_files.specs.declared.command_error.CommandError.TheVariants as ended
use Rattle.sd_drill.specs.declared.Budget.{Budget}
use Rattle.sd_search.specs.Finds.{IsFound, IsNoneWorse}
use Rattle.sd_search.specs.declared.found.Found.{Found}
use Rattle.sd_search.specs.declared.found.Found.TheVariants as found
use Rattle.sd_why.specs.declared.Reason.{Reason}
use Rattle.sd_ctl_top.specs.Findings.{FitsFound, IsFinding, IsToldWith, found_status, found_text}

-- a plan that was found fits
pub found_fits : (net : Network) (absent : Absent) (root : Option ℕ) (what : Found) → IsFound net absent root what → FitsFound net what
found_fits net absent root (found.Plan plan) (kept, accepted) = kept.fits
found_fits net absent root (found.NoPlan plan breach) is = tt

-- an answer with the text and the status of what was found
pub finding_makes : (net : Network) (absent : Absent) (root : Option ℕ) (budget : Budget) (what : Found) (why : Option Reason)
    (made : Result Answer CommandError) → IsFound net absent root what → IsNoneWorse net absent root budget what → IsToldWith net absent what why
    → IfOk made (λ answer. answer.text.items ≡ found_text net what why)
    → IfOk made (λ answer. answer.status ≡ found_status what) → IfErr made (λ why. why ≡ ended.Memory) → IsAllowed (IsFinding net absent root budget) made
finding_makes net absent root budget what why (Ok answer) is good told text status only =
    record { what = what; found = is; none_worse = good; why = why; told = told; text = text; answer = status }
finding_makes net absent root budget what why (Err ended.Memory) is good told text status only = tt
finding_makes net absent root budget what why (Err ended.Shelf) is good told text status only = cc
finding_makes net absent root budget what why (Err (ended.Refused refusal)) is good told text status only = cc
