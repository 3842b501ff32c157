use Rattle.std.proofs.Common.{take}
use Rattle.sd_io.proofs.stream.Windows.{ends_at}
use Rattle.sd_top.proofs.solo.AloneLineWork.take_front.Goals as goal

pub returns-in-Ok-clause-ends : goal.returns-in-Ok-clause-ends
returns-in-Ok-clause-ends c = ends_at c.args.text.now c.in-Some.front.len c.in-Some.ensures.newline c.in-Some.ensures.short

pub returns-in-Ok-clause-takes : goal.returns-in-Ok-clause-takes
returns-in-Ok-clause-takes c =
    λ work xs is. c.in-Ok.ensures.takes work xs (take c.in-Some.front.len c.args.text.now) is c.in-Some.ensures.event
