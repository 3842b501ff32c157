use Rattle.sd_plan.specs.topo.Topologies.{network}
use Rattle.sd_top.proofs.Planned.{verdict_makes}
use Rattle.sd_top.proofs.check.judge.Goals as goal

pub returns-clause-makes : goal.returns-clause-makes
returns-clause-makes c =
    verdict_makes (network c.args.topo.now) c.args.plan.now c.in_ok-verdict.verdict c.verdict_answer.result
    c.in_ok-verdict.ensures c.verdict_answer.ensures.text c.verdict_answer.ensures.status c.verdict_answer.ensures.only
