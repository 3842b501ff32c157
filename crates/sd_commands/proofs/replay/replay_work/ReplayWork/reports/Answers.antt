use Rattle.std.proofs.Common.{ap}
use Rattle.sd_replay.specs.declared.Tally.{Tally}
use Rattle.sd_commands.proofs.replay.Stepping.{tally_as}
use Rattle.sd_commands.proofs.replay.replay_work.ReplayWork.reports.Goals as goal

pub returns : goal.returns
returns g c =
    λ setting events replayed. ap (λ (t : Tally). t.reports)
    (tally_as g.V.Observer setting events c.args.self.now.replay c.tally.result c.tally.ensures replayed)
