use Rattle.std.proofs.Common.{◌≡◌}
use Rattle.sd_plan.specs.topo.Seen.{domains_seen}
use Rattle.sd_gen.specs.fabric.Fabrics.{rack}
use Rattle.sd_gen.proofs.fabric.Numbering.{numbered}
use Rattle.sd_gen.proofs.fabric.parts.racks.Given as goal

abbrev pub invariant-racks : goal.invariant-racks
invariant-racks l = domains_seen l.racks ≡ numbered (rack l.spines) l.leaf
