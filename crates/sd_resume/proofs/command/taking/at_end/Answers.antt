use Rattle.sd_resume.proofs.command.Takings.{ends_none, ends_some}
use Rattle.sd_resume.proofs.command.taking.at_end.Goals as goal

pub returns-clause-comes : goal.returns-clause-comes
returns-clause-comes c =
    λ setting events played. ends_some c.args.word.now c.args.replay.now setting events c.count.result played (c.count.ensures.count setting events played)
    c.if-count-eq0.false

pub returns-then-count-eq0-clause-comes : goal.returns-then-count-eq0-clause-comes
returns-then-count-eq0-clause-comes c =
    λ setting events played. ends_none c.args.word.now c.args.replay.now setting events c.count.result c.refuse.result (c.count.ensures.count setting events played)
    c.if-count-eq0.true (c.refuse.ensures.comes setting events played)
