use Rattle.sd_plan.specs.topo.Topologies.{network}
use Rattle.sd_ctl_top.proofs.Reasoned.{told_makes}
use Rattle.sd_ctl_top.proofs.reasons.reason_over.Goals as goal

pub returns-clause-makes : goal.returns-clause-makes
returns-clause-makes c =
    told_makes (network c.args.topo.now) _ c.told.result c.in_ok-found.ensures.first c.told.ensures.text c.told.ensures.status c.told.ensures.only
