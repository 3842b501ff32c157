use Rattle.std.proofs.Common.{count_by}
use Rattle.sd_checker.specs.check_loop.Trails.{IsTrail, is_open}
use Rattle.sd_checker.proofs.check_loop.cycle.cycle_from.Given as goal

abbrev pub invariant-loop-from : goal.invariant-loop-from
invariant-loop-from l = IsTrail l.hit l.graph l.marks l.begin l.path l.passed.items l.here

abbrev pub decreases-loop-from : goal.decreases-loop-from
decreases-loop-from l = count_by is_open l.passed.items
