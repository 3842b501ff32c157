use Rattle.sd_record.proofs.Working.{ends_as}
use Rattle.sd_record.proofs.work.RecordingLineWork.ended.Goals as goal

pub returns : goal.returns
returns c = λ work xs does. ends_as c.args.self.now work xs does
