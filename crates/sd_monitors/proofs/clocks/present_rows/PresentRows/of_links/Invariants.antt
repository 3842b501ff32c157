use Rattle.std.proofs.Common.{◌≡◌, map, take}
use Rattle.sd_num.specs.Lists.{below}
use Rattle.sd_plan.specs.Plans.{is_present}
use Rattle.sd_monitors.proofs.clocks.present_rows.PresentRows.of_links.Given as goal

abbrev pub invariant-loop-plan : goal.invariant-loop-plan
invariant-loop-plan l = l.rows ≡ map (λ plan. map (is_present plan) (below l.links)) (take l.plan-index l.plans)
