-- Where the window stays open, each device but the named one stands as before.
use Rattle.std.proofs.Common.{◌≡◌, ◌∷◌, true, false, ◌∙◌}
use Rattle.sd_history.specs.Nodes.{steps_of}
use Rattle.sd_replay.proofs.ParentTable.{one_kept, none_changed}
use Rattle.sd_replay.proofs.alarms.all_kept.Goals as goal

pub returns-then-closed : goal.returns-then-closed
returns-then-closed g c = λ told setting run made are. let clash : false ≡ true = told in cc

pub returns-in-Some : goal.returns-in-Some
returns-in-Some g c = λ told setting run made are.
    one_kept setting made.next.step (steps_of run) c.args.parent_table.now c.in-Some.d made.stands.fabric.accepted (made.closes ∙ c.if-closed.false)
    (made.named ∙ c.in-Some.is) (c.is_kept.ensures told setting (made.next ∷ run) made.stands) are

pub returns-in-None : goal.returns-in-None
returns-in-None g c = λ told setting run made are.
    none_changed setting made.next.step (steps_of run) c.args.parent_table.now made.stands.fabric.accepted (made.closes ∙ c.if-closed.false)
    (made.named ∙ c.in-None.is) are
