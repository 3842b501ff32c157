use Rattle.std.proofs.Common.{sym, ◌∙◌, ap}
use Rattle.std.proofs.lemmas.Bool.{leb-true, leb-false}
use Rattle.sd_world.specs.world.Registers.{Registers, up_at}
use Rattle.sd_history.specs.Premises.{latest_tick}
use Rattle.sd_resume.proofs.Honest.{up_is, life_honest}
use Rattle.sd_resume.proofs.honesty.compare_lives.Goals as goal

pub returns-then-not-allows_as_much-clause-differs : goal.returns-then-not-allows_as_much-clause-differs
returns-then-not-allows_as_much-clause-differs c shift net front plans one other of_first of_second alike = (
  sym (up_is c.args.first.now c.args.second.now shift net front plans one other of_first of_second alike c.args.d c.requires.second)
      ∙ ap (λ (w : Registers). up_at w c.args.d) (sym c.world.ensures) ∙ sym c.is_up.ensures ∙ c.if-not-is_up.false,
  sym (c.allows_as_much.ensures.offsets shift net front plans one other of_first of_second alike) ∙ c.if-not-allows_as_much.true,
)

pub returns-then-not-ticked_as_late-clause-differs : goal.returns-then-not-ticked_as_late-clause-differs
returns-then-not-ticked_as_late-clause-differs c shift net front plans one other of_first of_second alike = (
  sym (up_is c.args.first.now c.args.second.now shift net front plans one other of_first of_second alike c.args.d c.requires.second)
      ∙ ap (λ (w : Registers). up_at w c.args.d) (sym c.world.ensures) ∙ sym c.is_up.ensures ∙ c.if-not-is_up.false,
  leb-false (latest_tick one c.args.d) (latest_tick other c.args.d)
      (sym (c.ticked_as_late.ensures shift net front plans one other of_first of_second alike) ∙ c.if-not-ticked_as_late.true),
)

pub returns-clause-honest : goal.returns-clause-honest
returns-clause-honest c shift net front plans one other of_first of_second alike up =
    life_honest c.args.first.now c.args.second.now shift net front plans one other of_first of_second alike c.args.d c.requires.second
    c.allows_as_much.ensures.reference c.allows_as_much.ensures.reading
    (sym (c.allows_as_much.ensures.offsets shift net front plans one other of_first of_second alike) ∙ c.if-not-allows_as_much.false)
    (leb-true (latest_tick one c.args.d) (latest_tick other c.args.d)
    (sym (c.ticked_as_late.ensures shift net front plans one other of_first of_second alike) ∙ c.if-not-ticked_as_late.false))
    up
