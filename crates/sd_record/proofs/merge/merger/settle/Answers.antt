use Rattle.std.proofs.Common.{subst, Option}
use Rattle.sd_record.specs.merge.Lines.{LogLine}
use Rattle.sd_record.specs.merge.Queues.{PopsSettled}
use Rattle.sd_record.proofs.merge.Popping.{one_more_left}
use Rattle.sd_record.proofs.merge.merger.settle.Goals as goal

pub lines-preserved : goal.lines-preserved
lines-preserved c =
    one_more_left c.args.logs.now c.lines.logs c.pop_settled.new.self c.args.text.now.items c.lines.text.items c.add_line.new.text.items c.in-Some.line
    c.lines.invariant (subst (λ (o : Option LogLine). PopsSettled c.lines.logs c.pop_settled.new.self o) c.in-Some.is c.in_ok-line.ensures)
    c.in_ok-add_line.ensures
