use Rattle.std.proofs.Common.{arith}
use Rattle.sd_monitors.specs.clocks.Readings.{pair_of}
use Rattle.sd_monitors.proofs.clocks.Drifting.{rule_at}
use Rattle.sd_monitors.proofs.clocks.offsets.Offsets.at.Goals as goal

pub returns-clause-rule : goal.returns-clause-rule
returns-clause-rule c readings after =
    rule_at c.args.rates (pair_of c.args.reading) _ (omega arith) (omega arith) (omega arith) (grind arith) readings after
