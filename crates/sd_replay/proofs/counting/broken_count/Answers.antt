use Rattle.std.proofs.Common.{sym}
use Rattle.sd_replay.proofs.Counted.{broken_counted}
use Rattle.sd_replay.proofs.counting.broken_count.Goals as goal

pub returns-clause-count : goal.returns-clause-count
returns-clause-count c =
    rw (c.one.ensures.count, c.one-2.ensures.count, c.one-3.ensures.count, c.one-4.ensures.count, c.one-5.ensures.count, c.one-6.ensures.count, c.one-7.ensures.count) (sym (broken_counted c.args.broken.now))
