use Rattle.std.proofs.Common.{◌≡◌, take}
use Rattle.sd_num.specs.Lists.{greatest}
use Rattle.sd_plan.specs.topo.Seen.{links_seen}
use Rattle.sd_plan.proofs.topo.Adding.{delays}
use Rattle.sd_plan.proofs.topo.parts.longest_delay.Given as goal

abbrev pub invariant-loop-number : goal.invariant-loop-number
invariant-loop-number l = l.longest ≡ greatest (delays (take l.number (links_seen l.links)))
