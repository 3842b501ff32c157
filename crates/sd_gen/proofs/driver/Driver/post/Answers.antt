use Rattle.std.proofs.Common.{arith, ◌∙◌, ◌+◌, ◌-◌, refl}
use Rattle.sd_gen.proofs.Posted.{posting_begins, posting_goes, posting_ends}
use Rattle.sd_gen.proofs.driver.Driver.post.Goals as goal

pub loop-number-init : goal.loop-number-init
loop-number-init g c =
    record {
      leads = refl;
      stands = posting_begins g.D.Driven c.args.self.now c.args.outcome.now c.args.reference (c.args.outcome.now.first_sent - c.args.outcome.now.first_sent)
          (omega arith);
    }

pub loop-number-preserved : goal.loop-number-preserved
loop-number-preserved g c =
    record {
      leads = c.in_ok-post_one.ensures.leads ∙ c.loop-number.invariant.leads;
      stands =
          posting_goes g.D.Driven c.args.self.now c.loop-number.self c.post_one.new.self c.args.outcome.now c.args.reference c.loop-number.number
          (c.loop-number.number + 1 - c.args.outcome.now.first_sent)
          (omega (arith, c.loop-number.auto.number)) (omega (arith, c.loop-number-test.true, c.saturating_add-end.ensures, c.from.ensures)) refl
          c.loop-number.invariant.stands c.in_ok-post_one.ensures.stands;
    }

pub returns-clause-stands : goal.returns-clause-stands
returns-clause-stands g c =
    posting_ends g.D.Driven c.args.self.now c.loop-number.self c.args.outcome.now c.args.reference c.loop-number.number
    (omega (arith, c.loop-number.auto.number))
    (omega (arith, c.loop-number.auto.number-end, c.saturating_add-end.ensures, c.from.ensures))
    (omega (arith, c.loop-number-test.false, c.saturating_add-end.ensures, c.from.ensures)) c.loop-number.invariant.stands
