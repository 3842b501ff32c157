use Rattle.std.proofs.Common.{take}
use Rattle.sd_checker.specs.check_reach.Turns.{IsMarkedFed}
use Rattle.sd_checker.proofs.check_reach.marks.mark_fed.Given as goal

abbrev pub invariant-loop-place : goal.invariant-loop-place
invariant-loop-place l = IsMarkedFed (take l.place-index l.trail) l.fn.marks l.marks
