use Rattle.std.proofs.Common.{◌≡◌, take}
use Rattle.sd_checker.proofs.check_hit.merge.ascending.Given as goal

abbrev pub invariant-loop-number : goal.invariant-loop-number
invariant-loop-number l = l.list ≡ take l.number-index l.number-items
