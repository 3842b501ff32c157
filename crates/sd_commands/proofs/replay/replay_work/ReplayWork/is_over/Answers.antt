use Rattle.sd_commands.proofs.replay.Stepping.{over_as}
use Rattle.sd_commands.proofs.replay.replay_work.ReplayWork.is_over.Goals as goal

pub returns : goal.returns
returns g c = λ setting events replayed. over_as g.V.Observer setting events c.args.self.now.replay c.ended.result c.ended.ensures replayed
