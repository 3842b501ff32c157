use Rattle.std.proofs.Common.{true, refl, subst, Option}
use Rattle.sd_record.specs.merge.Follows.{Grows}
use Rattle.sd_record.specs.declared.merge.feed.FeedFault.{FeedFault}
use Rattle.sd_record.proofs.merge.Working.{line_accepted}
use Rattle.sd_record.proofs.merge.work.MergerLineWork.take.Goals as goal

pub returns-in_ok-settle-in-None-clause-takes : goal.returns-in_ok-settle-in-None-clause-takes
returns-in_ok-settle-in-None-clause-takes c =
    line_accepted c.args.self.now (record { logs = c.settle.new.logs; text = c.settle.new.text; line = c.args.self.now.line; begun = true }) c.grow.new.logs
    c.args.line.now c.clear.new.self.items
    (subst (λ (o : Option FeedFault). Grows c.args.self.now.logs c.grow.new.logs c.args.line.now o) c.in-None.is c.in_ok-fault.ensures)
    c.in_ok-settle-in-None.ensures c.clear.ensures.items refl
