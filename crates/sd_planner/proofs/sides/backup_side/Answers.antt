use Rattle.std.proofs.Common.{◌++◌, ◌∷◌, [], map, sym, ap, ◌∙◌}
use Rattle.sd_num.specs.Lists.{below}
use Rattle.sd_plan.proofs.Numbered.{numbered_more}
use Rattle.sd_planner.specs.Views.{net_of, left_out}
use Rattle.sd_planner.specs.Placing.{through_backup}
use Rattle.sd_planner.proofs.sides.backup_side.Goals as goal

pub loop-d-preserved : goal.loop-d-preserved
loop-d-preserved c =
    let through = through_backup (net_of c.args.present.now) (left_out c.args.present.now) c.args.placement.now.order in
    c.in-Ok.ensures.items ∙ ap (λ xs. xs ++ c.may_pass_backup.result ∷ []) c.loop-d.invariant
    ∙ ap (λ b. map through (below c.loop-d.d) ++ b ∷ []) c.may_pass_backup.ensures
    ∙ sym (numbered_more through c.loop-d.d)
