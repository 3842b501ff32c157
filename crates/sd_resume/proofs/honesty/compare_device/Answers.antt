use Rattle.std.proofs.Common.{◌≡◌, Bool, true, not, ◌||◌, sym, ◌∙◌, subst}
use Rattle.std.proofs.lemmas.Bool.{or_parts, not-false}
use Rattle.sd_history.specs.World.{setting_over, is_untouched}
use Rattle.sd_monitors.specs.clocks.Tickings.{TickKept, TickStands}
use Rattle.sd_resume.proofs.honesty.compare_device.Goals as goal

pub returns-then-not-knows_as_much-clause-differs : goal.returns-then-not-knows_as_much-clause-differs
returns-then-not-knows_as_much-clause-differs c shift net front plans one other of_first of_second alike =
    let neither = or_parts (not (is_untouched other c.args.d)) (is_untouched one c.args.d)
    (sym (c.knows_as_much.ensures shift net front plans one other of_first of_second alike) ∙ c.if-not-knows_as_much.true) in
    (not-false (is_untouched other c.args.d) neither.0, neither.1)

pub returns-then-not-failed_in_both-clause-differs : goal.returns-then-not-failed_in_both-clause-differs
returns-then-not-failed_in_both-clause-differs c = c.failed_in_both.ensures.differs c.if-not-failed_in_both.true

pub returns-clause-honest : goal.returns-clause-honest
returns-clause-honest c shift net front plans one other of_first of_second alike =
    record {
      life = c.in_ok-compare_lives.ensures.honest shift net front plans one other of_first of_second alike;
      awaited = sym (c.is_awaited.ensures (setting_over net plans) other
          (subst (λ (kept : TickKept). TickStands (setting_over net plans) kept other) (sym c.ticks.ensures) of_second.tick)) ∙ c.if-is_awaited.false;
      untouched = λ is. subst (λ (b : Bool). (not b || is_untouched one c.args.d) ≡ true) is
          (sym (c.knows_as_much.ensures shift net front plans one other of_first of_second alike) ∙ c.if-not-knows_as_much.false);
      failed = c.failed_in_both.ensures.same c.if-not-failed_in_both.false shift net front plans one other of_first of_second alike;
    }
