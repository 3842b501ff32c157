use Rattle.sd_plan.specs.topo.Topologies.{network}
use Rattle.sd_ctl_top.proofs.Makes.{finding_makes}
use Rattle.sd_ctl_top.proofs.finding.finding.Goals as goal

pub returns-clause-makes : goal.returns-clause-makes
returns-clause-makes c =
    finding_makes (network c.args.topo.now) c.args.absent.now c.args.root c.args.settings.budget _ _ c.found_answer.result c.in_ok-found.ensures.found
    c.in_ok-found.ensures.good c.in_ok-told.ensures c.found_answer.ensures.text
    c.found_answer.ensures.status c.found_answer.ensures.only
