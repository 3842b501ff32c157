use Rattle.std.proofs.Common.{◌+◌, ◌≤◌, ◌∙◌, length, get_or, sym, arith}
use Rattle.std.proofs.lemmas.Option.{IfSome_then}
use Rattle.core.proofs.slice.Flagged.{Bytes}
use Rattle.core.proofs.dec2flt.Eight.{eight_at, word_at}
use Rattle.sd_sched.proofs.DigitWords.{word_begins, word_goes_on}
use Rattle.sd_sched.proofs.numbers.number_at.Goals as goal

pub ended-requires-clause-count : goal.ended-requires-clause-count
ended-requires-clause-count c =
    (word_begins c.args.text.now c.args.from _ (λ k. (c.type_inv.text k).fits) (omega (arith, c.requires)) c.word_at-word.ensures _ _ c.in-Some.ensures.few c.in-Some.ensures.digits).0

pub ended-requires-clause-number : goal.ended-requires-clause-number
ended-requires-clause-number c =
    (word_begins c.args.text.now c.args.from _ (λ k. (c.type_inv.text k).fits) (omega (arith, c.requires)) c.word_at-word.ensures _ _ c.in-Some.ensures.few c.in-Some.ensures.digits).1

pub ended-requires-in-None-clause-count : goal.ended-requires-in-None-clause-count
ended-requires-in-None-clause-count c =
    let fit : Bytes (λ k. get_or c.args.text.now k 0) = λ k. (c.type_inv.text k).fits in
    let inside : c.args.from + 8 + 8 ≤ length c.args.text.now = omega (arith, c.requires) in
    let more = word_begins c.args.text.now (c.args.from + 8) _ fit inside c.word_at.ensures _ _ c.in_ok-more-in-None.ensures.few c.in_ok-more-in-None.ensures.digits in
    let first = c.joined.ensures.number _ (eight_at c.args.text.now c.args.from fit (omega (arith, c.requires))) (c.word_at-word.ensures ∙ word_at c.args.text.now c.args.from (omega (arith, c.requires))) in
    (word_goes_on c.args.text.now c.args.from _ fit (omega (arith, c.requires)) c.word_at-word.ensures _ _ _ c.in_ok-more-in-None.ensures.few c.requires
    c.in-None.ensures.all more.0 more.1 first).0 ∙ sym c.joined.ensures.count

pub ended-requires-in-None-clause-number : goal.ended-requires-in-None-clause-number
ended-requires-in-None-clause-number c =
    let fit : Bytes (λ k. get_or c.args.text.now k 0) = λ k. (c.type_inv.text k).fits in
    let inside : c.args.from + 8 + 8 ≤ length c.args.text.now = omega (arith, c.requires) in
    let more = word_begins c.args.text.now (c.args.from + 8) _ fit inside c.word_at.ensures _ _ c.in_ok-more-in-None.ensures.few c.in_ok-more-in-None.ensures.digits in
    let first = c.joined.ensures.number _ (eight_at c.args.text.now c.args.from fit (omega (arith, c.requires))) (c.word_at-word.ensures ∙ word_at c.args.text.now c.args.from (omega (arith, c.requires))) in
    rw c.joined.ensures.count
    (word_goes_on c.args.text.now c.args.from _ fit (omega (arith, c.requires)) c.word_at-word.ensures _ _ _ c.in_ok-more-in-None.ensures.few c.requires
    c.in-None.ensures.all more.0 more.1 first).1

pub returns-in-Some-clause-number : goal.returns-in-Some-clause-number
returns-in-Some-clause-number c = IfSome_then c.ended.result c.ended.ensures.number (λ placed has. has 15 (omega (arith, c.in-Some.ensures.few)))

pub returns-in_ok-more-in-None-clause-number : goal.returns-in_ok-more-in-None-clause-number
returns-in_ok-more-in-None-clause-number c =
    IfSome_then c.ended-in-None.result c.ended-in-None.ensures.number (λ placed has. has 15 (omega (arith, c.joined.ensures.count, c.in_ok-more-in-None.ensures.few)))
