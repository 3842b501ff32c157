-- Both drills that are ready.
use Rattle.std.specs.Prelude.{◌≡◌}
use Rattle.sd_plan.specs.topo.Network.{Network}
use Rattle.sd_plan.specs.declared.Plan.{Plan}
use Rattle.sd_drill.specs.Calm.{AreCalm}
use Rattle.sd_drill.specs.Tight.{IsTightDrillOf}
use Rattle.sd_drill.specs.Times.{IsDrillOf}
use Rattle.sd_ctl_top.specs.declared.bounding.bounds_lines.BoundsLines.{BoundsLines}

-- both drills are ready, with one budget, and the calm numbers are known
pub record IsReady (lines : BoundsLines) (net : Network) (plan : Plan) : Type 0 where
  pub drill : IsDrillOf net plan lines.drill
  pub tight : IsTightDrillOf net plan lines.tight
  pub granted : lines.tight.times.budget ≡ lines.drill.times.budget
  pub calm : AreCalm net plan lines.drill.times.budget lines.calm.items
