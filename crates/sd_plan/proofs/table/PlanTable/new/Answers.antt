use Rattle.std.proofs.Common.{length, List, subst}
use Rattle.sd_plan.specs.topo.Topologies.{network}
use Rattle.sd_plan.specs.Joining.{AreJoined}
use Rattle.sd_plan.specs.declared.End.{End}
use Rattle.sd_plan.proofs.Whole.{table_is_joined}
use Rattle.sd_plan.proofs.table.PlanTable.new.Goals as goal

pub returns : goal.returns
returns c =
    table_is_joined (network c.args.topo.now) c.args.plan.now c.args.epoch c.in_ok-duties.duties.items c.in_ok-rows.rows.items c.in_ok-joined.joined.ends.items
    c.in_ok-joined.joined.offsets.items
    c.in_ok-duties.ensures c.in_ok-rows.ensures
    (subst (λ (rows : List (List End)). AreJoined rows (length rows) c.in_ok-joined.joined.ends.items c.in_ok-joined.joined.offsets.items) c.deref.ensures.value
    c.in_ok-joined.ensures)
