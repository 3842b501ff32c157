-- Where each device stands as it is kept, there is no new loop and no new root.
use Rattle.std.proofs.Common.{◌∷◌}
use Rattle.sd_history.specs.Nodes.{steps_of}
use Rattle.sd_replay.proofs.Others.{steps_know}
use Rattle.sd_replay.proofs.ParentTable.{no_new_loop, no_new_roots}
use Rattle.sd_replay.proofs.alarms.alarms_of.Goals as goal

pub returns-then-all_kept : goal.returns-then-all_kept
returns-then-all_kept g c = λ setting run made are.
    let stands = c.all_kept.ensures c.if-all_kept.true setting run made are in
    let before = steps_know setting (steps_of run) made.stands.fabric.accepted.0 in
    let after = steps_know setting (made.next.step ∷ steps_of run) made.stands.fabric.accepted in
    record {
      stands = stands;
      looped = no_new_loop c.args.parent_table.now setting made.next.step (steps_of run) are stands before after;
      roots = no_new_roots c.args.parent_table.now setting made.next.step (steps_of run) are stands before after;
    }
