use Rattle.std.proofs.Common.{◌≡◌, ℕ, Option, Some, None, Result, Err, IfSome}
use Rattle.sd_history.specs.declared.ApplyFault.{ApplyFault}
use Rattle.sd_fleet.specs.declared.Outcome.{Outcome}
use Rattle.sd_fleet.specs.Causes.{refusal_in}
use Rattle.sd_fleet.proofs.fleet.Fleet.apply.Goals as goal

abbrev same_answer : Result Outcome ApplyFault → Result Outcome ApplyFault → Type 0
same_answer x y = x ≡ y

-- what was answered for one cause is answered for it with another value too
told_on : (cause : Option ApplyFault) (told : Result ℕ ApplyFault) (fault : ApplyFault) → told ≡ Err fault → IfSome cause (λ f. told ≡ Err f)
    → IfSome cause (λ f. same_answer (Err fault) (Err f))
told_on None told fault is same = tt
told_on (Some f) told fault is same = cc

pub returns-in-Err-clause-same : goal.returns-in-Err-clause-same
returns-in-Err-clause-same g c = told_on (refusal_in c.args.self.now.fabric c.args.event.now) c.prepare.result c.in-Err.fault c.in-Err.is c.prepare.ensures.same
