use Rattle.std.proofs.Common.{◌∙◌}
use Rattle.sd_replay.proofs.ParentTable.{row_at, same_rows}
use Rattle.sd_replay.proofs.alarms.is_kept.Goals as goal

pub returns : goal.returns
returns g c = λ told setting run stands.
    row_at c.args.parent_table.now c.args.d c.row.result c.row.ensures.parent c.row.ensures.acts
    ∙ same_rows c.row.result c.parent_row_of.result (c.same_row.ensures.parent told) (c.same_row.ensures.acts told)
    ∙ c.parent_row_of.ensures setting run stands
