use Rattle.sd_plan.specs.Joining.{AreJoined}
use Rattle.sd_plan.proofs.table.joined.join_rows.Given as goal

abbrev pub invariant-loop-row : goal.invariant-loop-row
invariant-loop-row l = AreJoined l.rows l.row-index l.ends.items l.offsets.items
