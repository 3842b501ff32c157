use Rattle.std.proofs.Common.{rules, refl}
use Rattle.sd_top.specs.Schedules.{solo_work}
use Rattle.sd_top.proofs.Alone.{reports_whole}
use Rattle.sd_top.proofs.solo.replay_solo.Goals as goal

pub returns-clause-outcome : goal.returns-clause-outcome
returns-clause-outcome g c = c.work_through.ensures.outcome solo_work (refl, search rules) reports_whole
