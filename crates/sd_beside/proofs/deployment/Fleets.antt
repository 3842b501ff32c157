-- What holds of histories holds of deployed fleets: safety, containment, the bound of the drill, and hearing again.
use Rattle.std.specs.Prelude.{◌-◌, IsTrue}
use Rattle.std.specs.List.{list_all}
use Rattle.std.proofs.Common.{sym, ◌∙◌, subst}
use Rattle.sd_plan.specs.topo.Network.{Network}
use Rattle.sd_plan.specs.declared.domain.DomainId.{DomainId}
use Rattle.sd_plan.specs.declared.Plan.{Plan}
use Rattle.sd_checker.specs.check_root.Timing.{silence}
use Rattle.sd_drill.specs.declared.Budget.{Budget}
use Rattle.sd_sched.specs.Events.{reference_of}
use Rattle.sd_num.specs.clock.Estimates.{contains}
use Rattle.sd_device.specs.declared.registers.Registers.{Registers}
use Rattle.sd_history.specs.World.{Setting, alone, is_counted}
use Rattle.sd_history.specs.Steps.{seen_of}
use Rattle.sd_history.specs.Premises.{is_honest}
use Rattle.sd_history.specs.Lines.{reports}
use Rattle.sd_safety.specs.invariant.Guarded.{all_but_start_hold}
use Rattle.sd_safety.specs.invariant.Kept.{IsSafe}
use Rattle.sd_bound.specs.Hearing.{IsServed}
use Rattle.sd_history.proofs.Contained.{admitted_reports_contain}
use Rattle.sd_safety.proofs.whole.Safe.{always_safe}
use Rattle.sd_bound.proofs.Bounded.{always_bounded}
use Rattle.sd_bound.proofs.Hearing.{always_hears_again}
use Rattle.sd_beside.specs.deployment.Laws.{events_in, IsItsHistory, FleetStaysSafe, FleetReportsContain, FleetStaysBelow, FleetHearsAgain}
use Rattle.sd_beside.proofs.deployment.History.{is_history}

pub fleet_stays_safe : {S : Type 0} (Holds : S → Registers → Type 0) (setting : Setting) → FleetStaysSafe Holds setting
fleet_stays_safe Holds setting run is guarded holds =
    let history : IsItsHistory setting run = is_history Holds setting run is in
    subst (IsSafe setting) history.steps
    (always_safe setting (events_in run) guarded
    (record { is = history.is; premises = subst (λ steps. IsTrue (all_but_start_hold setting (seen_of steps))) (sym history.steps) holds }))

pub fleet_reports_contain : {S : Type 0} (Holds : S → Registers → Type 0) (setting : Setting) → FleetReportsContain Holds setting
fleet_reports_contain Holds setting run is honest =
    let history : IsItsHistory setting run = is_history Holds setting run is in
    subst (λ steps. IsTrue (list_all (λ r. contains r.report r.reference) (reports steps))) history.steps
    (admitted_reports_contain setting (events_in run) history.is
    (subst (λ steps. IsTrue (is_honest setting (seen_of steps))) (sym history.steps) honest))

pub fleet_stays_below : {S : Type 0} (Holds : S → Registers → Type 0) (net : Network) (plan : Plan) (budget : Budget) (f : DomainId)
    → FleetStaysBelow Holds net plan budget f
fleet_stays_below Holds net plan budget f run d w later s earlier report is recovers worst same told counted =
    let history : IsItsHistory (alone net plan) run = is_history Holds (alone net plan) run is in
    always_bounded net plan budget f d w worst (events_in run) later s earlier report recovers (history.steps ∙ same) told counted

pub fleet_hears_again : {S : Type 0} (Holds : S → Registers → Type 0) (net : Network) (plan : Plan) (f : DomainId) → FleetHearsAgain Holds net plan f
fleet_hears_again Holds net plan f run x budget d w since is steady worst counted late =
    let history : IsItsHistory (alone net plan) run = is_history Holds (alone net plan) run is.0 in
    subst (λ steps. IsServed steps d since (reference_of x.event - silence net)) history.steps
    (always_hears_again net plan f budget d w worst since x.event (events_in run) steady
    (subst (λ steps. IsTrue (is_counted (alone net plan) (seen_of steps) d)) (sym history.steps) counted) late)
