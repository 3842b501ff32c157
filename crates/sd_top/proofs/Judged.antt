-- What is answered for a file that is not refused, and for an accepted plan.
use Rattle.std.proofs.Common.{◌≡◌, ℕ, List, Result, Ok, subst}
use Rattle.sd_plan.specs.topo.Network.{Network}
use Rattle.sd_plan.specs.declared.Plan.{Plan}
use Rattle.sd_checker.specs.Verdicts.{IsVerdict}
use Rattle.sd_checker.specs.Conditions.{IsAccepted}
use Rattle.sd_checker.specs.declared.Verdict.{Verdict}
use Rattle.sd_checker.specs.declared.Verdict.TheVariants.{Accepted, Refused}
use Rattle.sd_checker.proofs.Exclusive.{accepted_unbroken}
use Rattle.sd_files.specs.Answering.{Allowed, After}
use Rattle.sd_files.specs.declared.Status.{Status}
use Rattle.sd_files.specs.declared.Status.TheVariants.{Done}
use Rattle.sd_files.specs.declared.command_error.Refusal.{Refusal}
use Rattle.sd_top.specs.Checks.{verdict_status}

-- a file that is not refused
pub after_file : {X : Type 0} (says : Result X Refusal) (x : X) (Then : X → Allowed) (bytes : List ℕ) (status : Status) → says ≡ Ok x
    → After says Then bytes status
    → Then x bytes status
after_file {X = X} says x Then bytes status is written = subst (λ (s : Result X Refusal). After s Then bytes status) is written

-- the verdict on an accepted plan
pub verdict_done : (net : Network) (plan : Plan) (verdict : Verdict) (status : Status) → IsAccepted net plan → IsVerdict net plan verdict
    → status ≡ verdict_status verdict → status ≡ Done
verdict_done net plan Accepted status accepted says is = is
verdict_done net plan (Refused breach) status accepted says is = absurd (accepted_unbroken net plan breach accepted says)
