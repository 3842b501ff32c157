use Rattle.sd_drill.proofs.ages.Division.{oldest_is}
use Rattle.sd_drill.proofs.ages.oldest.Goals as goal

pub returns-clause-is : goal.returns-clause-is
returns-clause-is c = rw (c.from.ensures, c.from-2.ensures) (oldest_is c.args.rates c.args.s c.requires.rates)
