use Rattle.std.proofs.Common.{ap, ◌∙◌, [], ◌∷◌}
use Rattle.std.specs.Prelude.{codes, decimal}
use Rattle.sd_num.specs.Texts.{text_of}
use Rattle.sd_replay.specs.declared.Tally.{Tally}
use Rattle.sd_commands.proofs.replay.Stepping.{tally_as}
use Rattle.sd_commands.proofs.replay.replay_work.ReplayWork.print_done.Goals as goal

pub returns-clause-done : goal.returns-clause-done
returns-clause-done g c = λ setting events replayed.
    c.print_tally.ensures
    ∙ ap (λ (t : Tally). text_of (codes "done" ∷ decimal t.events ∷ decimal t.reports ∷ []))
    (tally_as g.V.Observer setting events c.args.self.now.replay c.tally.result c.tally.ensures replayed)
