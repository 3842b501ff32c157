use Rattle.std.proofs.Common.{ap, ◌∙◌}
use Rattle.sd_replay.specs.Tallies.{shows_trouble}
use Rattle.sd_commands.proofs.replay.Stepping.{tally_as}
use Rattle.sd_commands.proofs.replay.replay_work.ReplayWork.shows_trouble.Goals as goal

pub returns : goal.returns
returns g c = λ setting events replayed. c.has_trouble.ensures
    ∙ ap shows_trouble (tally_as g.V.Observer setting events c.args.self.now.replay c.tally.result c.tally.ensures replayed)
