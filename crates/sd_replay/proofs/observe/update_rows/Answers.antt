-- Where the window stays open, each device but the named one stands as before.
use Rattle.std.proofs.Common.{◌∷◌, refl, ◌∙◌}
use Rattle.sd_history.specs.Nodes.{steps_of}
use Rattle.sd_history.proofs.Known.{named_is_known}
use Rattle.sd_replay.specs.Standing.{parent_row_in}
use Rattle.sd_replay.proofs.ParentTable.{one_changed, none_changed}
use Rattle.sd_replay.proofs.observe.update_rows.Goals as goal

pub returns-then-closed : goal.returns-then-closed
returns-then-closed g c = λ setting run made are. c.keep_all.ensures setting (made.next ∷ run) made.stands

pub returns-in-Some : goal.returns-in-Some
returns-in-Some g c = λ setting run made are.
    let named = made.named ∙ c.in-Some.is in
    one_changed setting made.next.step (steps_of run) c.args.parent_table.now c.keep_parent_row.new.parent_table c.in-Some.d
    (parent_row_in setting (made.next.step ∷ steps_of run) c.in-Some.d) made.stands.fabric.accepted (made.closes ∙ c.if-closed.false) named
    (named_is_known setting (steps_of run) made.next.step.seen.event c.in-Some.d made.stands.fabric.accepted.1 named) refl
    (c.keep_parent_row.ensures.parent_row setting (made.next ∷ run) made.stands) are

pub returns-in_default : goal.returns-in_default
returns-in_default g c = λ setting run made are.
    none_changed setting made.next.step (steps_of run) c.args.parent_table.now made.stands.fabric.accepted (made.closes ∙ c.if-closed.false)
    (made.named ∙ c.in_default.is) are
