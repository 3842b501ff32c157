use Rattle.sd_planner.specs.Views.{net_of}
use Rattle.sd_why.specs.Rings.{AreRings}
use Rattle.sd_why.proofs.ways.distances.Given as goal

abbrev pub invariant-loop-hops : goal.invariant-loop-hops
invariant-loop-hops l = AreRings (net_of l.present) l.from l.hops l.known.items l.ring.items
