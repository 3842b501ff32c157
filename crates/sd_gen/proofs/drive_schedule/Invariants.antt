use Rattle.std.proofs.Common.{[]}
use Rattle.sd_plan.specs.topo.Limits.{IsNetwork}
use Rattle.sd_history.specs.World.{Setting}
use Rattle.sd_gen.specs.Drafts.{draft_after}
use Rattle.sd_gen.specs.Standing.{StandsFor}
use Rattle.sd_gen.proofs.drive_schedule.Given as goal

abbrev pub invariant-loop-before : goal.invariant-loop-before
invariant-loop-before g l =
    (setting : Setting) → IsNetwork setting.net → g.D.Driven.stands l.fn.driven setting []
    → StandsFor g.D.Driven l.driver setting (draft_after setting l.number l.before)
