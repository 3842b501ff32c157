use Rattle.std.proofs.Common.{◌≡◌, ◌∙◌, sym, ap, arith, take, drop, length, ◌-◌}
use Rattle.std.proofs.lemmas.Grind.{common_steps}
use Rattle.sd_sched.specs.Lines.{number_within}
use Rattle.sd_sched.proofs.Prefix.{front_number, front_left}
use Rattle.sd_sched.proofs.fields.read_number.Goals as goal

pub returns-clause-number : goal.returns-clause-number
returns-clause-number c =
    let digits = c.leading_number-digits in
    c.within.ensures.number
    ∙ ap (number_within c.args.most)
    (sym (front_number c.args.bytes.now digits.result.len digits.result.value digits.ensures.inside digits.ensures.value (omega arith) digits.ensures.digits
    (sym c.ends_at.ensures ∙ c.if-not-ends_at.false) (sym c.is_plain.ensures ∙ c.if-not-is_plain.false)))

pub returns-clause-left : goal.returns-clause-left
returns-clause-left c =
    let digits = c.leading_number-digits in
    let bytes = c.args.bytes.now in
    let whole : take (length bytes - digits.result.len) (drop digits.result.len bytes) ≡ drop digits.result.len bytes = grind (arith, common_steps) in
    whole ∙ front_left bytes digits.result.len digits.ensures.inside digits.ensures.digits (sym c.ends_at.ensures ∙ c.if-not-ends_at.false)
