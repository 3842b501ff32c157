use Rattle.std.proofs.Common.{◌≢◌, ℕ, ◌<◌}
use Rattle.sd_checker.specs.check_loop.Markings.{mark_at}
use Rattle.sd_checker.specs.declared.check_loop.marking.Mark.TheVariants as mark
use Rattle.sd_checker.proofs.check_loop.cycle.first_endless.Given as goal

abbrev pub invariant-loop-i : goal.invariant-loop-i
invariant-loop-i l = (k : ℕ) → k < l.i → mark_at l.marks k ≢ mark.Endless
