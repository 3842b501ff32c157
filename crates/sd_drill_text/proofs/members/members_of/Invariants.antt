use Rattle.std.proofs.Common.{◌≡◌, filter}
use Rattle.sd_num.specs.Lists.{below}
use Rattle.sd_plan.specs.Plans.{is_member}
use Rattle.sd_drill_text.proofs.members.members_of.Given as goal

abbrev pub invariant-loop-d : goal.invariant-loop-d
invariant-loop-d l = l.members ≡ filter (is_member l.planned.plan.now) (below l.d)
