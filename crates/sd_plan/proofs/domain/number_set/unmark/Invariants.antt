use Rattle.std.proofs.Common.{◌≡◌, ℕ, false, not, ◌&&◌, get_or, take}
use Rattle.sd_num.specs.Lists.{has}
use Rattle.sd_plan.proofs.domain.number_set.unmark.Given as goal

abbrev pub invariant-loop-number : goal.invariant-loop-number
invariant-loop-number l = (k : ℕ) → get_or l.marks k false ≡ (get_or l.initial.marks k false && not (has (take l.number-index l.numbers) k))
