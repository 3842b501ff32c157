use Rattle.std.proofs.Common.{◌≡◌, ◌++◌, ℕ, List, OnOk}
use Rattle.sd_commands.proofs.replay.Ordering.{waits_named}
use Rattle.sd_commands.proofs.replay.order_work.add_waits.Goals as goal

pub returns-clause-text : goal.returns-clause-text
returns-clause-text c = λ setting events replayed.
    waits_named (λ (lines : List ℕ). OnOk c.add_lines.result (c.add_lines.new.text.items ≡ c.args.replayed.now.text.items ++ lines)) c.args.replayed.now.replay
    c.observer-told.result.now c.observer-told.ensures c.name_of-name.result.now c.add_lines.ensures setting events replayed (c.name_of-name.ensures setting events replayed)
