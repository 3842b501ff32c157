use Rattle.std.proofs.Common.{ℕ, ◌∙◌, sym, subst}
use Rattle.sd_resume.specs.Numbers.{shift_of}
use Rattle.sd_resume.specs.Told.{IsTold}
use Rattle.sd_resume.proofs.command.Agreed.{differing_makes, opens_for}
use Rattle.sd_resume.proofs.command.comparing.compare.Goals as goal

pub returns-in-Ok-clause-makes : goal.returns-in-Ok-clause-makes
returns-in-Ok-clause-makes c =
    λ net front plans events others behind played also.
    c.compare_premises.ensures.makes (shift_of c.propose-shift.result) net front plans events others
    (opens_for (shift_of c.propose-shift.result) c.args.one.now c.args.other.now c.fleet-first.result.now c.fleet-second.result.now c.fleet-first.ensures.stands
    c.fleet-second.ensures.stands net front plans events others (behind ∙ sym c.propose-shift.ensures.left) played also c.in-Ok.ensures.opens)

pub returns-in-Err-clause-makes : goal.returns-in-Err-clause-makes
returns-in-Err-clause-makes c =
    λ net front plans events others behind played also.
    differing_makes (shift_of c.propose-shift.result) c.args.one.now c.args.other.now c.fleet-first.result.now c.fleet-second.result.now
    c.fleet-first.ensures.stands c.fleet-second.ensures.stands net front plans events others (behind ∙ sym c.propose-shift.ensures.left) played also
    c.in-Err.difference c.differ_answer.result c.in-Err.ensures.differs
    (subst (λ (k : ℕ). IsTold c.fleet-first.result.now c.fleet-second.result.now k (shift_of c.propose-shift.result)) (sym behind) c.propose-shift.ensures.told)
    c.differ_answer.ensures.text c.differ_answer.ensures.status c.differ_answer.ensures.only
