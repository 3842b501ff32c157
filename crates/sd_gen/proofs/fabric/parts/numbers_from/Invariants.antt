use Rattle.std.proofs.Common.{◌≡◌, ◌+◌}
use Rattle.sd_gen.proofs.fabric.Numbering.{numbered}
use Rattle.sd_gen.proofs.fabric.parts.numbers_from.Given as goal

abbrev pub invariant-numbers : goal.invariant-numbers
invariant-numbers l = l.numbers.items ≡ numbered (λ k. l.first + k) l.k
