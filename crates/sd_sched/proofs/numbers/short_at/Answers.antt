use Rattle.std.proofs.Common.{arith}
use Rattle.std.proofs.lemmas.Option.{IfSome_then}
use Rattle.sd_sched.proofs.DigitWords.{word_begins}
use Rattle.sd_sched.proofs.numbers.short_at.Goals as goal

pub ended-requires-clause-count : goal.ended-requires-clause-count
ended-requires-clause-count c =
    (word_begins c.args.text.now c.args.from _ (λ k. (c.type_inv.text k).fits) c.requires c.word_at.ensures _ _ c.in_ok-digits.ensures.few c.in_ok-digits.ensures.digits).0

pub ended-requires-clause-number : goal.ended-requires-clause-number
ended-requires-clause-number c =
    (word_begins c.args.text.now c.args.from _ (λ k. (c.type_inv.text k).fits) c.requires c.word_at.ensures _ _ c.in_ok-digits.ensures.few c.in_ok-digits.ensures.digits).1

pub returns-clause-number : goal.returns-clause-number
returns-clause-number c = IfSome_then c.ended.result c.ended.ensures.number (λ placed has. has 7 (omega (arith, c.in_ok-digits.ensures.few)))
