use Rattle.std.proofs.Common.{arith, ap, ◌∙◌, ◌≡◌, ◌+◌, refl}
use Rattle.sd_gen.proofs.fabric.Numbering.{numbered}
use Rattle.sd_gen.proofs.fabric.Tables.{one_seen}
use Rattle.sd_gen.proofs.fabric.parts.numbers_from.Goals as goal

pub numbers-preserved : goal.numbers-preserved
numbers-preserved c =
    one_seen (λ k. c.args.first + k) c.numbers.k c.numbers.numbers.items c.push.new.self.items _ c.in-Ok.ensures.items refl c.numbers.invariant

pub returns : goal.returns
returns c =
    let all : c.numbers.k ≡ c.args.count = omega (arith, c.numbers.auto.k-end, c.numbers-test.false) in
    c.numbers.invariant ∙ ap (numbered (λ k. c.args.first + k)) all
