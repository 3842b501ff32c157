use Rattle.std.proofs.Common.{refl}
use Rattle.sd_plan.specs.topo.Topologies.{network}
use Rattle.sd_plan.specs.domain.Failures.{things_of}
use Rattle.sd_plan.proofs.domain.Listed.{within_one-parts}
use Rattle.sd_plan.proofs.domain.holding.within_one.Goals as goal

pub returns-in-Some-clause-first : goal.returns-in-Some-clause-first
returns-in-Some-clause-first c = rw (within_one-parts (network c.args.topo.now) (things_of c.args.failed.now), ← c.in-Some.ensures.first) refl

pub returns-in-None-clause-first : goal.returns-in-None-clause-first
returns-in-None-clause-first c =
    rw (within_one-parts (network c.args.topo.now) (things_of c.args.failed.now), ← c.in-None.ensures.first) c.first_alone.ensures.first
