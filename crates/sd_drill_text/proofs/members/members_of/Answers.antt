use Rattle.std.proofs.Common.{◌∙◌, ◌++◌, List, ℕ, ap, sym, cond, [], ◌∷◌}
use Rattle.sd_plan.specs.Plans.{is_member}
use Rattle.sd_drill_text.proofs.Membership.{one_more}
use Rattle.sd_drill_text.proofs.members.members_of.Goals as goal

pub loop-d-preserved : goal.loop-d-preserved
loop-d-preserved c =
    let plan = c.args.planned.plan.now in
    c.in_ok-add_member.ensures ∙ ap (λ (xs : List ℕ). xs ++ cond (is_member plan c.loop-d.d) (c.loop-d.d ∷ []) []) c.loop-d.invariant
    ∙ sym (one_more (is_member plan) c.loop-d.d)
