use Rattle.std.proofs.Common.{◌∙◌}
use Rattle.sd_record.specs.merge.Turns.{has_turn}
use Rattle.sd_record.proofs.merge.Turning.{more_at}
use Rattle.sd_record.proofs.merge.turns.Turns.add.Goals as goal

pub returns-in-Ok-clause-added : goal.returns-in-Ok-clause-added
returns-in-Ok-clause-added c =
    λ bound place.
    c.in-Ok.ensures.updates.0 (record { bound = bound; place = place })
    ∙ more_at c.args.turn bound place (has_turn c.args.self.now bound place)
