use Rattle.std.proofs.Common.{Bool, subst}
use Rattle.sd_resume.specs.command.Played.{IsTaken}
use Rattle.sd_resume.proofs.command.Takings.{takes_accepted, takes_refused}
use Rattle.sd_resume.proofs.command.taking.take_lent.Goals as goal

pub returns-in-Ok-true-clause-comes : goal.returns-in-Ok-true-clause-comes
returns-in-Ok-true-clause-comes c =
    λ setting events played. takes_accepted c.args.word.now c.args.replay.now c.step.new.replay setting events c.args.line.now
    (subst (λ (b : Bool). IsTaken c.step.new.replay setting events c.args.line.now b) c.in-Ok-true.field-0-test
    (c.in-Ok-true.ensures setting events played))

pub returns-in-Ok-false-clause-comes : goal.returns-in-Ok-false-clause-comes
returns-in-Ok-false-clause-comes c =
    λ setting events played. takes_refused c.args.word.now c.step.new.replay setting events c.args.line.now c.refuse.result
    (subst (λ (b : Bool). IsTaken c.step.new.replay setting events c.args.line.now b) c.in-Ok-false.field-0-test
    (c.in-Ok-false.ensures setting events played)) (λ again. c.refuse.ensures.comes setting events again)
