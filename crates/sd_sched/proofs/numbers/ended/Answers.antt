use Rattle.std.proofs.Common.{◌∙◌, sym, arith}
use Rattle.sd_sched.proofs.InPlace.{has_number, at_place}
use Rattle.sd_sched.proofs.numbers.ended.Goals as goal

pub returns-then-text-end-clause-number : goal.returns-then-text-end-clause-number
returns-then-text-end-clause-number c most fits =
    has_number most c.args.text.now c.args.from c.args.digits.count c.args.digits.number (omega (arith, c.requires.inside)) fits c.requires.few
    c.requires.count c.requires.number (sym c.is_plain.ensures ∙ c.if-is_plain.true)

pub returns-then-text-end-clause-behind : goal.returns-then-text-end-clause-behind
returns-then-text-end-clause-behind c =
    at_place c.args.text.now _ c.args.behind c.requires.inside c.if-text-end.true
