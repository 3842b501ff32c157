use Rattle.serde_json.specs.View.{view}
use Rattle.sd_plan.specs.topo.Topologies.{network}
use Rattle.sd_plantext.proofs.Sound.{plan_ok}
use Rattle.sd_plantext.proofs.read.read_plan.Goals as goal

pub returns-in-Ok-plan_at-clause-fits : goal.returns-in-Ok-plan_at-clause-fits
returns-in-Ok-plan_at-clause-fits c = plan_ok (network c.args.topo.now) (view c.in-Ok.tree) c.in-Ok-plan_at.plan c.in-Ok-plan_at.ensures
