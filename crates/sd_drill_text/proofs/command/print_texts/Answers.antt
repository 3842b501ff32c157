use Rattle.sd_plan.specs.topo.Topologies.{network}
use Rattle.sd_files.specs.Inputs.{topology_of}
use Rattle.sd_files.specs.planfiles.PlanFiles.{AfterPlan}
use Rattle.sd_drill_text.specs.Commands.{IsPrinted}
use Rattle.sd_drill_text.specs.Steps.{PlanInSteps}
use Rattle.sd_drill_text.proofs.Commands.{ended_keeps, told_leaves_on, told_unloaded}
use Rattle.sd_drill_text.proofs.command.print_texts.Goals as goal

pub returns-in-Ok-clause-outcome : goal.returns-in-Ok-clause-outcome
returns-in-Ok-clause-outcome g c =
    told_leaves_on network (λ texts. topology_of (texts c.args.topology.now))
    (λ texts net. AfterPlan net 1 (texts c.args.plan.now) (IsPrinted g.D.DomainLines.says net c.args.budget))
    (λ texts net. PlanInSteps g.D.DomainLines.lines net c.args.budget (texts c.args.plan.now)) _ _ _ c.print_over.result c.in-Ok.topo c.in-Ok.ensures.says
    (rw c.in-Ok.ensures.shelf.same_held at c.print_over.ensures.outcome)

pub returns-in-Err-clause-outcome : goal.returns-in-Err-clause-outcome
returns-in-Err-clause-outcome g c =
    told_unloaded network (λ texts. topology_of (texts c.args.topology.now))
    (λ texts net. AfterPlan net 1 (texts c.args.plan.now) (IsPrinted g.D.DomainLines.says net c.args.budget))
    (λ texts net. PlanInSteps g.D.DomainLines.lines net c.args.budget (texts c.args.plan.now)) _ _ _ c.write_answer.result c.in-Err.ended c.in-Err.ensures.says
    c.write_answer.ensures.writes

pub returns-in-Err-clause-shelf : goal.returns-in-Err-clause-shelf
returns-in-Err-clause-shelf g c = ended_keeps g.S.Shelf c.in-Err.ended c.write_answer.result _ _ c.write_answer.ensures.shelf c.in-Err.ensures.shelf
