use Rattle.std.proofs.Common.{◌≡◌, ◌∙◌, ℕ, true, sym, subst}
use Rattle.std.proofs.lemmas.Bool.{eq-eqb}
use Rattle.sd_checker.specs.check_hit.Outages.{net_of, plan_of}
use Rattle.sd_plan.specs.Plans.{is_member}
use Rattle.sd_plan.proofs.Rules.{keeps_rules, other_member}
use Rattle.sd_drill.proofs.recovery.feeding.is_member.Goals as goal

pub returns-then-plan-d : goal.returns-then-plan-d
returns-then-plan-d c =
    let o = c.args.outage.now in
    eq-eqb (plan_of o).root c.args.d c.if-plan-d.true
    ∙ sym (subst (λ (x : ℕ). is_member (plan_of o) x ≡ true) c.if-plan-d.true (keeps_rules (net_of o) (plan_of o) o.planned.is_index.structured).root)

pub returns-else-plan-d : goal.returns-else-plan-d
returns-else-plan-d c =
    let o = c.args.outage.now in
    c.has_row.ensures
    ∙ other_member (net_of o) (plan_of o) c.args.d (keeps_rules (net_of o) (plan_of o) o.planned.is_index.structured) c.requires c.if-plan-d.false
