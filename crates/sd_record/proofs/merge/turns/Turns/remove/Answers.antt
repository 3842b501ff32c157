use Rattle.std.proofs.Common.{◌∙◌}
use Rattle.sd_record.specs.merge.Turns.{has_turn}
use Rattle.sd_record.proofs.merge.Turning.{less_at}
use Rattle.sd_record.proofs.merge.turns.Turns.remove.Goals as goal

pub returns : goal.returns
returns c =
    λ bound place.
    c.remove.ensures.updates.0 (record { bound = bound; place = place })
    ∙ less_at c.args.turn bound place (has_turn c.args.self.now bound place)
