use Rattle.std.proofs.Common.{◌≡◌}
use Rattle.sd_plan.specs.topo.Seen.{links_seen}
use Rattle.sd_gen.specs.fabric.Numbered.{link_at}
use Rattle.sd_gen.proofs.fabric.Numbering.{numbered}
use Rattle.sd_gen.proofs.fabric.parts.links.Given as goal

abbrev pub invariant-links : goal.invariant-links
invariant-links l = links_seen l.links ≡ numbered (link_at l.spines) l.number
