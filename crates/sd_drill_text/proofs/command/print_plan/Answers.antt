use Rattle.std.proofs.Common.{subst}
use Rattle.sd_plan.specs.topo.Topologies.{network}
use Rattle.sd_checker.specs.Verdicts.{IsVerdict}
use Rattle.sd_drill_text.proofs.Commands.{printed, refused}
use Rattle.sd_drill_text.proofs.command.print_plan.Goals as goal

pub returns-in-Ok-Accepted-clause-outcome : goal.returns-in-Ok-Accepted-clause-outcome
returns-in-Ok-Accepted-clause-outcome g c =
    printed g.D.DomainLines.lines g.D.DomainLines.says (network c.args.topo.now) c.args.plan.now c.args.budget _ _
    (g.met.D.DomainLines.whole (network c.args.topo.now) c.args.plan.now c.args.budget) c.write_plan.result
    (subst (IsVerdict (network c.args.topo.now) c.args.plan.now) c.in-Ok-Accepted.field-0-is c.in-Ok-Accepted.ensures) c.write_plan.ensures.adds

pub returns-in-Ok-Refused-clause-outcome : goal.returns-in-Ok-Refused-clause-outcome
returns-in-Ok-Refused-clause-outcome g c =
    refused g.D.DomainLines.lines g.D.DomainLines.says (network c.args.topo.now) c.args.plan.now c.args.budget _ _ c.in-Ok-Refused.breach c.refuse.result
    (subst (IsVerdict (network c.args.topo.now) c.args.plan.now) c.in-Ok-Refused.field-0-is c.in-Ok-Refused.ensures) c.refuse.ensures.status
    c.refuse.ensures.writes
