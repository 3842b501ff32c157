use Rattle.std.proofs.Common.{sym, ◌∙◌}
use Rattle.sd_checker.specs.check_root.Inequalities.{breach_of}
use Rattle.sd_checker.specs.check_root.Timing.{is_broken}
use Rattle.sd_num.proofs.Firsts.{find_more, find_here}
use Rattle.sd_checker.proofs.check_root.waits.first_broken.Goals as goal

pub returns-then-is_broken : goal.returns-then-is_broken
returns-then-is_broken c =
    sym (find_here (λ i. is_broken (breach_of i)) c.args.inequalities.now c.loop-inequality.inequality-index _ c.loop-inequality-test.true
    c.loop-inequality.invariant (sym c.is_broken.ensures ∙ c.if-is_broken.true))

pub loop-inequality-preserved : goal.loop-inequality-preserved
loop-inequality-preserved c =
    find_more (λ i. is_broken (breach_of i)) c.args.inequalities.now c.loop-inequality.inequality-index _ c.loop-inequality-test.true
    c.loop-inequality.invariant (sym c.is_broken.ensures ∙ c.if-is_broken.false)
