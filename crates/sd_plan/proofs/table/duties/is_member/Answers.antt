use Rattle.std.proofs.Common.{◌∙◌}
use Rattle.sd_plan.specs.topo.Topologies.{network}
use Rattle.sd_plan.proofs.Rules.{keeps_rules, other_member}
use Rattle.sd_plan.proofs.table.duties.is_member.Goals as goal

pub returns-else-plan-d : goal.returns-else-plan-d
returns-else-plan-d c =
    c.has_row.ensures
    ∙ other_member (network c.args.topo.now) c.args.plan.now c.args.d
    (keeps_rules (network c.args.topo.now) c.args.plan.now c.requires.structured) c.requires.device c.if-plan-d.false
