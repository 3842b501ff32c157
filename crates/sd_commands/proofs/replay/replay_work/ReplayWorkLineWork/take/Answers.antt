use Rattle.sd_commands.proofs.replay.Working.{replay_takes}
use Rattle.sd_commands.proofs.replay.replay_work.ReplayWorkLineWork.take.Goals as goal

pub returns-clause-takes : goal.returns-clause-takes
returns-clause-takes g c =
    replay_takes g.V.Observer c.args.self.now c.step.new.self c.args.line.now c.step.new.self.text.items c.step.result c.step.ensures.takes
