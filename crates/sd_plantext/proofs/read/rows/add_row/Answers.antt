use Rattle.std.proofs.Common.{◌<◌, List, length, Option, true, ◌≡◌, subst}
use Rattle.sd_plan.specs.declared.PlanRow.{PlanRow}
use Rattle.sd_plantext.specs.Meaning.{is_free}
use Rattle.sd_plantext.proofs.Rows.{one_more_filled}
use Rattle.sd_plantext.proofs.read.rows.add_row.Goals as goal

pub returns-clause-filled : goal.returns-clause-filled
returns-clause-filled c =
    let n = c.in_ok-device.device in
    one_more_filled c.args.rows.now.items n c.in_ok-row.row
    (subst (λ (rows : List (Option PlanRow)). n < length rows) c.as_slice.ensures.value c.in_ok-device.ensures.range)
    (subst (λ (rows : List (Option PlanRow)). is_free rows n ≡ true) c.as_slice.ensures.value c.in_ok-device.ensures.free)
