use Rattle.std.proofs.Common.{refl}
use Rattle.sd_plan.specs.topo.Topologies.{network}
use Rattle.sd_why.proofs.Laws.{timing_law}
use Rattle.sd_why.proofs.timing.short_period.Goals as goal

pub returns-then-is_rushed-clause-law : goal.returns-then-is_rushed-clause-law
returns-then-is_rushed-clause-law c = timing_law (network c.args.topo.now) (c.if-is_rushed.ensures.0 refl)
