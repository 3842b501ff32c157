use Rattle.std.proofs.Common.{◌≡◌, take}
use Rattle.sd_checker.proofs.check_loop.cycle.copy_from.Given as goal

abbrev pub invariant-loop-d : goal.invariant-loop-d
invariant-loop-d l = l.copy ≡ take l.d-index l.d-items
