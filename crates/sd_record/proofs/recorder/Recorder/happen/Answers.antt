use Rattle.std.proofs.Common.{sym, ◌∙◌}
use Rattle.sd_record.proofs.Happening.{happened, refused}
use Rattle.sd_record.proofs.recorder.Recorder.happen.Goals as goal

pub returns-in-Err : goal.returns-in-Err
returns-in-Err c =
    refused c.args.self.now c.args.event.now c.in-Err.fault c.in-Err.ensures.fault (sym c.is_refusal.ensures ∙ c.if-not-is_refusal.false) c.args.self.now

pub returns : goal.returns
returns c =
    happened c.args.self.now c.prepare.new.self c.happen.new.self c.add_line.new.text c.args.event.now c.happen.new.outcome c.prepare.ensures.stands
    c.happen.ensures c.in_ok-add_line.ensures
