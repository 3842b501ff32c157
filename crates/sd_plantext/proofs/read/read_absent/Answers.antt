use Rattle.serde_json.specs.View.{view}
use Rattle.sd_plan.specs.topo.Topologies.{network}
use Rattle.sd_plantext.proofs.Sound.{absent_ok}
use Rattle.sd_plantext.proofs.read.read_absent.Goals as goal

pub returns-in-Ok-absent_at-clause-fits : goal.returns-in-Ok-absent_at-clause-fits
returns-in-Ok-absent_at-clause-fits c =
    absent_ok (network c.args.topo.now) (view c.in-Ok-object_of.object.now) c.in-Ok-absent_at.absent c.in-Ok-absent_at.ensures
