use Rattle.std.proofs.Common.{◌≡◌, replicate, None}
use Rattle.sd_fleet.proofs.fleet.no_nodes.Given as goal

abbrev pub invariant-loop : goal.invariant-loop
invariant-loop g l = l.nodes.items ≡ replicate l.counter None
