use Rattle.std.proofs.Common.{◌≡◌, [], replicate}
use Rattle.sd_planner.proofs.present.rows.no_neighbours.Given as goal

abbrev pub invariant-loop : goal.invariant-loop
invariant-loop l = l.rows.items ≡ replicate l.counter []
