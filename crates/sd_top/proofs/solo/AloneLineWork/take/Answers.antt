use Rattle.std.proofs.Common.{sym}
use Rattle.sd_top.proofs.solo.AloneLineWork.take.Goals as goal

pub returns-in-Ok-apply-clause-takes : goal.returns-in-Ok-apply-clause-takes
returns-in-Ok-apply-clause-takes c = λ work xs is. c.in-Ok-apply.ensures.takes work xs c.args.line.now is (sym c.in-Ok.ensures.event)
