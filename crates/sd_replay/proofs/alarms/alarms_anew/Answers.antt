-- What is kept answers for loops and roots of the history, before the event and after it.
use Rattle.std.proofs.Common.{◌∷◌, sym, ap, ◌∙◌}
use Rattle.sd_replay.specs.watch.Watch.{two_least}
use Rattle.sd_history.specs.Nodes.{steps_of}
use Rattle.sd_history.specs.Lines.{first_on_loop, roots}
use Rattle.sd_replay.proofs.Others.{steps_know}
use Rattle.sd_replay.proofs.ParentTable.{loop_is, roots_are, newly_is}
use Rattle.sd_replay.proofs.alarms.alarms_anew.Goals as goal

pub returns : goal.returns
returns g c = λ setting run made are.
    let stands = c.update_rows.ensures setting run made are in
    let before = steps_know setting (steps_of run) made.stands.fabric.accepted.0 in
    let after = steps_know setting (made.next.step ∷ steps_of run) made.stands.fabric.accepted in
    record {
      stands = stands;
      looped =
          c.newly.ensures
          ∙ newly_is (first_on_loop setting (steps_of run)) (first_on_loop setting (made.next.step ∷ steps_of run)) c.first_loop-looped.result c.first_loop.result
          (sym (loop_is c.args.parent_table.now setting (steps_of run) are before c.first_loop-looped.result c.first_loop-looped.ensures))
          (sym (loop_is c.update_rows.new.parent_table setting (made.next.step ∷ steps_of run) stands after c.first_loop.result c.first_loop.ensures));
      roots =
          c.newly-2.ensures
          ∙ newly_is (two_least (roots setting (steps_of run))) (two_least (roots setting (made.next.step ∷ steps_of run))) c.two_acting-roots.result
          c.two_acting.result
          (c.two_acting-roots.ensures ∙ ap two_least (roots_are c.args.parent_table.now setting (steps_of run) are before))
          (c.two_acting.ensures ∙ ap two_least (roots_are c.update_rows.new.parent_table setting (made.next.step ∷ steps_of run) stands after));
    }
