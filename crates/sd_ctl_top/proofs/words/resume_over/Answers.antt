use Rattle.std.proofs.Common.{◌∙◌, ◌-◌, ap, arith, length, string_bytes, sym}
use Rattle.std.proofs.lemmas.Bool.{eqb-false, eqb-true}
use Rattle.std.proofs.lemmas.List.{length-drop}
use Rattle.sd_ctl_top.proofs.Openings.{many_plans, more_later, no_later, others, the_last}
use Rattle.sd_ctl_top.proofs.words.resume_over.Goals as goal

pub returns-then-is_empty-clause-is : goal.returns-then-is_empty-clause-is
returns-then-is_empty-clause-is c =
    no_later string_bytes c.args.topology.now c.args.plans.now c.args.schedule.now c.args.later.now c.args.opening.now
    (eqb-true (length c.args.later.now) 0 (sym c.is_empty.ensures ∙ c.if-is_empty.true))

pub returns-then-plans-later-clause-is : goal.returns-then-plans-later-clause-is
returns-then-plans-later-clause-is c =
    let some = eqb-false (length c.args.later.now) 0 (sym c.is_empty.ensures ∙ c.if-is_empty.false) in
    more_later string_bytes c.args.topology.now c.args.plans.now c.args.schedule.now c.args.later.now c.args.opening.now (omega arith) (omega arith)

pub returns-then-plans-gt-MOST_PLANS-clause-is : goal.returns-then-plans-gt-MOST_PLANS-clause-is
returns-then-plans-gt-MOST_PLANS-clause-is c =
    let some = eqb-false (length c.args.later.now) 0 (sym c.is_empty.ensures ∙ c.if-is_empty.false) in
    many_plans string_bytes c.args.topology.now c.args.plans.now c.args.schedule.now c.args.later.now c.args.opening.now (omega arith) (omega arith)
    (omega arith)

pub are_same-requires : goal.are_same-requires
are_same-requires c =
    let last = ap length c.words_from.ensures ∙ length-drop (length c.args.plans.now - length c.args.later.now) c.args.plans.now in
    omega (arith, last)

pub returns-then-not-are_same-clause-is : goal.returns-then-not-are_same-clause-is
returns-then-not-are_same-clause-is c =
    let some = eqb-false (length c.args.later.now) 0 (sym c.is_empty.ensures ∙ c.if-is_empty.false) in
    others string_bytes c.args.topology.now c.args.plans.now c.args.schedule.now c.args.later.now c.args.opening.now (omega arith) (omega arith) (omega arith)
    c.words_from.result.now c.words_from.ensures c.are_same.result c.are_same.ensures c.if-not-are_same.true

pub returns-clause-is : goal.returns-clause-is
returns-clause-is c =
    let some = eqb-false (length c.args.later.now) 0 (sym c.is_empty.ensures ∙ c.if-is_empty.false) in
    the_last string_bytes c.args.topology.now c.args.plans.now c.args.schedule.now c.args.later.now c.args.opening.now (omega arith) (omega arith) (omega arith)
    c.words_from.result.now c.words_from.ensures c.are_same.result c.are_same.ensures c.if-not-are_same.false

pub returns-clause-granted : goal.returns-clause-granted
returns-clause-granted c =
    let some = eqb-false (length c.args.later.now) 0 (sym c.is_empty.ensures ∙ c.if-is_empty.false) in
    (omega arith, omega arith)
