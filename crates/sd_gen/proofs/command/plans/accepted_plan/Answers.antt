use Rattle.sd_plan.specs.topo.Topologies.{network}
use Rattle.sd_gen.proofs.command.Judging.{plan_refused}
use Rattle.sd_gen.proofs.command.plans.accepted_plan.Goals as goal

pub returns-clause-makes : goal.returns-clause-makes
returns-clause-makes c =
    plan_refused (network c.args.topo.now) c.args.place c.args.root c.args.absent.now c.in_ok-plan.field-0 c.in-NoPlan.field-0 c.in-NoPlan.breach
    c.in_ok-refused_plan-in-NoPlan.field-0 c.in_ok-plan.ensures c.in-NoPlan.is c.in_ok-refused_plan-in-NoPlan.ensures.text
    c.in_ok-refused_plan-in-NoPlan.ensures.status
