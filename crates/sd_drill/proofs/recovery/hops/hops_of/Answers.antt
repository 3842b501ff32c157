use Rattle.std.proofs.Common.{◌∙◌, sym, subst}
use Rattle.sd_checker.specs.check_hit.Outages.{net_of, plan_of}
use Rattle.sd_plan.proofs.Rules.{keeps_rules}
use Rattle.sd_drill.specs.recovery.Hops.{BothAre, IsRightHop}
use Rattle.sd_drill.specs.declared.recovery.hops.Hops.{Hops}
use Rattle.sd_drill.proofs.recovery.Rows.{hops_closed, hops_open, right_hops}
use Rattle.sd_drill.proofs.recovery.hops.hops_of.Goals as goal

pub returns-then-is_end-clause-is : goal.returns-then-is_end-clause-is
returns-then-is_end-clause-is c =
    let o = c.args.outage.now in
    sym (hops_closed (net_of o) (plan_of o) o.domain c.args.d (sym c.is_end.ensures ∙ c.if-is_end.true))

pub returns-clause-is : goal.returns-clause-is
returns-clause-is c =
    let o = c.args.outage.now in
    rw (c.primary_of.ensures, c.backup_under.ensures) (sym (hops_open (net_of o) (plan_of o) o.domain c.args.d (sym c.is_end.ensures ∙ c.if-is_end.false)))

pub returns-clause-right : goal.returns-clause-right
returns-clause-right c =
    let o = c.args.outage.now in
    let index = o.planned.is_index in
    rw (c.primary_of.ensures, c.backup_under.ensures)
    (subst (λ (hops : Hops). BothAre (IsRightHop (net_of o) c.args.d) hops)
    (hops_open (net_of o) (plan_of o) o.domain c.args.d (sym c.is_end.ensures ∙ c.if-is_end.false))
    (right_hops (net_of o) (plan_of o) o.domain c.args.d index.fits (keeps_rules (net_of o) (plan_of o) index.structured) c.requires))
