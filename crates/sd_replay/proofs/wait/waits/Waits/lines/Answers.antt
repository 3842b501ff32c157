-- Lines that are added to nothing.
use Rattle.std.proofs.Common.{◌-◌, ◌++◌, ◌∙◌, ℕ, List, length, ap}
use Rattle.sd_replay.specs.wait.Printed.{bytes_at}
use Rattle.sd_replay.proofs.wait.waits.Waits.lines.Goals as goal

pub returns : goal.returns
returns c = λ told stands.
    c.in_ok-add_lines.ensures told stands
    ∙ ap (λ (bytes : List ℕ). bytes ++ bytes_at told (length told - 1) c.args.name.now) c.new-text.ensures.items
