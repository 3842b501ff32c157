use Rattle.sd_commands.proofs.replay.Working.{order_ends}
use Rattle.sd_commands.proofs.replay.order_work.OrderWorkLineWork.ended.Goals as goal

pub returns : goal.returns
returns c = order_ends c.args.self.now c.is_over.result c.is_over.ensures
