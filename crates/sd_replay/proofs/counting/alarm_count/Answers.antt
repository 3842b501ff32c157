use Rattle.std.proofs.Common.{sym}
use Rattle.sd_replay.proofs.Counted.{alarms_counted}
use Rattle.sd_replay.proofs.counting.alarm_count.Goals as goal

pub returns-clause-count : goal.returns-clause-count
returns-clause-count c =
    rw (c.one.ensures.count, c.one-2.ensures.count, c.one-3.ensures.count, c.is_some.ensures, c.is_some-2.ensures, c.misses.ensures)
    (sym (alarms_counted c.args.findings.now))
