use Rattle.std.proofs.Common.{ℕ, not, List, ◌++◌, ◌∷◌, [], map, ap, ◌∙◌}
use Rattle.sd_num.specs.Lists.{below, has}
use Rattle.sd_plan.specs.Plans.{is_present}
use Rattle.sd_monitors.proofs.clocks.Rows.{rows_more}
use Rattle.sd_monitors.proofs.clocks.present_rows.PresentRows.of_links.Goals as goal

pub loop-plan-preserved : goal.loop-plan-preserved
loop-plan-preserved c =
    c.in_ok-add.ensures
    ∙ ap (λ (xs : List ℕ). c.loop-plan.rows ++ map (λ x. not (has xs x)) (below c.links-links.result) ∷ []) c.as_slice.ensures
    ∙ rows_more is_present c.links-links.result c.args.plans.now c.loop-plan.plan-index c.plan-item.result c.loop-plan.rows c.loop-plan-test.true c.plan-item.is
    c.loop-plan.invariant
