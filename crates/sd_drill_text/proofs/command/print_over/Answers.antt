use Rattle.sd_plan.specs.topo.Topologies.{network}
use Rattle.sd_files.specs.Inputs.{plan_in_file}
use Rattle.sd_files.specs.planfiles.PlanFiles.{AfterJudged}
use Rattle.sd_drill_text.specs.Commands.{IsPrinted}
use Rattle.sd_drill_text.specs.Steps.{PrintedInSteps}
use Rattle.sd_drill_text.proofs.Commands.{ended_keeps, told_leaves_on, told_unloaded}
use Rattle.sd_plan.specs.declared.Plan.{Plan}
use Rattle.sd_files.proofs.Loading.{told_always}
use Rattle.sd_drill_text.proofs.command.print_over.Goals as goal

pub returns-in-Ok-clause-outcome : goal.returns-in-Ok-clause-outcome
returns-in-Ok-clause-outcome g c =
    told_leaves_on (λ (plan : Plan). plan) (λ texts. plan_in_file (network c.args.topo.now) 1 (texts c.args.plan.now))
    (λ texts plan. AfterJudged (network c.args.topo.now) 1 plan (IsPrinted g.D.DomainLines.says (network c.args.topo.now) c.args.budget plan))
    (λ texts. PrintedInSteps g.D.DomainLines.lines (network c.args.topo.now) c.args.budget) _ _ _ c.print_plan.result
    c.in-Ok.plan c.in-Ok.ensures.says
    (told_always _ c.print_plan.ensures.outcome)

pub returns-in-Err-clause-outcome : goal.returns-in-Err-clause-outcome
returns-in-Err-clause-outcome g c =
    told_unloaded (λ (plan : Plan). plan) (λ texts. plan_in_file (network c.args.topo.now) 1 (texts c.args.plan.now))
    (λ texts plan. AfterJudged (network c.args.topo.now) 1 plan (IsPrinted g.D.DomainLines.says (network c.args.topo.now) c.args.budget plan))
    (λ texts. PrintedInSteps g.D.DomainLines.lines (network c.args.topo.now) c.args.budget) _ _ _ c.write_answer.result
    c.in-Err.ended c.in-Err.ensures.says c.write_answer.ensures.writes

pub returns-in-Err-clause-shelf : goal.returns-in-Err-clause-shelf
returns-in-Err-clause-shelf g c = ended_keeps g.S.Shelf c.in-Err.ended c.write_answer.result _ _ c.write_answer.ensures.shelf c.in-Err.ensures.shelf
