use Rattle.sd_commands.proofs.replay.Working.{replay_ends}
use Rattle.sd_commands.proofs.replay.replay_work.ReplayWorkLineWork.ended.Goals as goal

pub returns : goal.returns
returns g c = replay_ends g.V.Observer c.args.self.now c.is_over.result c.is_over.ensures
