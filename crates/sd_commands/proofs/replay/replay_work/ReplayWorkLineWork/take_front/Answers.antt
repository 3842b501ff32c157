use Rattle.sd_commands.proofs.replay.Working.{replay_takes_front}
use Rattle.sd_commands.proofs.replay.replay_work.ReplayWorkLineWork.take_front.Goals as goal

pub returns-clause-takes : goal.returns-clause-takes
returns-clause-takes g c =
    replay_takes_front g.V.Observer c.args.self.now c.step_front.new.self c.args.text.now c.step_front.new.self.text.items c.step_front.result
    c.step_front.ensures.takes
