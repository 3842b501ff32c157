use Rattle.sd_plan.specs.topo.Topologies.{network}
use Rattle.sd_top.proofs.Planned.{planning_makes}
use Rattle.sd_top.proofs.planning.planning.Goals as goal

pub returns-clause-makes : goal.returns-clause-makes
returns-clause-makes c =
    planning_makes (network c.args.topo.now) c.args.root c.args.absent.now _ c.planned_answer.result c.in_ok-planned.ensures c.planned_answer.ensures.text
    c.planned_answer.ensures.status c.planned_answer.ensures.only
