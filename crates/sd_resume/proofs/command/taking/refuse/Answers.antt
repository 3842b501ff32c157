use Rattle.sd_resume.proofs.command.Takings.{refuses}
use Rattle.sd_resume.proofs.command.taking.refuse.Goals as goal

pub returns-clause-comes : goal.returns-clause-comes
returns-clause-comes c =
    λ setting events played. refuses c.args.word.now c.args.why.now c.args.replay.now setting events c.count.result c.refusal.result played
    (c.count.ensures.count setting events played) c.refusal.ensures
