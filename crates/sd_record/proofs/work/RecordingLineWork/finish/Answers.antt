use Rattle.sd_record.proofs.Working.{nothing_due}
use Rattle.sd_record.proofs.work.RecordingLineWork.finish.Goals as goal

pub returns-clause-writes : goal.returns-clause-writes
returns-clause-writes g c = λ work xs does. nothing_due c.args.self.now work xs (g.O.Sink.written c.args._out.now) does
