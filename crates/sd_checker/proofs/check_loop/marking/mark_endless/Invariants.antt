use Rattle.std.proofs.Common.{◌≡◌, ℕ, take, if◌then◌else◌}
use Rattle.sd_num.specs.Lists.{has}
use Rattle.sd_checker.specs.check_loop.Markings.{mark_at}
use Rattle.sd_checker.specs.declared.check_loop.marking.Mark.TheVariants as mark
use Rattle.sd_checker.proofs.check_loop.marking.mark_endless.Given as goal

abbrev pub invariant-loop-i : goal.invariant-loop-i
invariant-loop-i l = (k : ℕ) → mark_at l.marks k ≡ (if has (take l.i-index l.places) k then mark.Endless else mark_at l.initial.marks k)
