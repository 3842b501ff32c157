use Rattle.std.proofs.Common.{◌++◌, ap, ◌∙◌, arith}
use Rattle.sd_plan.proofs.Joined.{joined_added}
use Rattle.sd_plan.proofs.table.joined.join_rows.Goals as goal

pub loop-row-preserved : goal.loop-row-preserved
loop-row-preserved c =
    joined_added c.args.rows.now c.loop-row.row-index c.loop-row.ends.items c.row-item.result c.extend_from_slice.new.self.items c.loop-row.offsets.items
    c.push-in-loop-row.new.self.items c.len.result
    c.loop-row.invariant (omega arith) c.row-item.is (c.in-Ok-extend_from_slice.ensures.items
    ∙ ap (λ more. c.loop-row.ends.items ++ more) c.as_slice.ensures) c.in-Ok-push.ensures.items
    (omega (arith, c.len.ensures, c.extend_from_slice.new.self.ok.0))
