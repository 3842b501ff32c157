use Rattle.sd_plan.specs.topo.Topologies.{network}
use Rattle.sd_drill.proofs.Circles.{no_circle}
use Rattle.sd_drill.proofs.worst.Goals as goal

pub worst-requires-clause-acyclic : goal.worst-requires-clause-acyclic
worst-requires-clause-acyclic c = no_circle (network c.args.topo.now) c.args.plan.now c.args.domain c.requires.accepted c.requires.domain
