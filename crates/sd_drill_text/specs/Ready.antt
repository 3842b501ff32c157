-- A drill's lines that are ready.
use Rattle.sd_plan.specs.topo.Network.{Network}
use Rattle.sd_plan.specs.declared.Plan.{Plan}
use Rattle.sd_drill.specs.Times.{IsDrillOf}
use Rattle.sd_drill_text.specs.Endings.{AreEndings}
use Rattle.sd_drill_text.specs.declared.drill_lines.DrillLines.{DrillLines}

-- the drill is one of the plan, and there is an ending for each device
pub record IsReady (lines : DrillLines) (net : Network) (plan : Plan) : Type 0 where
  pub drill : IsDrillOf net plan lines.drill
  pub endings : AreEndings net lines.page.endings.items
