use Rattle.sd_record.proofs.Standing.{is_history}
use Rattle.sd_record.proofs.recorder.Recorder.lines.Goals as goal

pub returns-clause-accepted : goal.returns-clause-accepted
returns-clause-accepted c = λ setting events stands. is_history c.args.self.now setting events stands
