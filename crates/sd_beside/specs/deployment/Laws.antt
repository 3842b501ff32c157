-- What is proved of deployed fleets: each run is a history, so what holds of histories holds of them. The premises are those of docs/PREMISES.md.
use Rattle.std.specs.Prelude.{◌≡◌, ℕ, ◌+◌, ◌-◌, ◌<◌, ◌≤◌, ◌^◌, length, List, ◌∷◌, ◌++◌, map, Some, IsTrue}
use Rattle.std.specs.List.{list_all}
use Rattle.sd_plan.specs.topo.Network.{Network}
use Rattle.sd_plan.specs.declared.domain.DomainId.{DomainId}
use Rattle.sd_plan.specs.declared.Plan.{Plan}
use Rattle.sd_checker.specs.check_root.Timing.{silence}
use Rattle.sd_drill.specs.declared.Budget.{Budget}
use Rattle.sd_drill.specs.Drill.{IsWorst}
use Rattle.sd_sched.specs.declared.Event.{Event}
use Rattle.sd_sched.specs.Events.{reference_of}
use Rattle.sd_num.specs.declared.clock.Report.{Report}
use Rattle.sd_num.specs.clock.Estimates.{contains}
use Rattle.sd_device.specs.declared.registers.Registers.{Registers}
use Rattle.sd_history.specs.World.{Setting, alone, is_counted}
use Rattle.sd_history.specs.Steps.{Step, seen_of}
use Rattle.sd_history.specs.Chronicle.{chronicle, IsHistory}
use Rattle.sd_history.specs.Admitted.{IsAdmitted}
use Rattle.sd_history.specs.Premises.{is_honest}
use Rattle.sd_history.specs.Lines.{asked_report, reports}
use Rattle.sd_safety.specs.invariant.Guarded.{AreGuarded, all_but_start_hold}
use Rattle.sd_safety.specs.invariant.Kept.{IsSafe}
use Rattle.sd_bound.specs.Hearing.{IsServed, recovery}
use Rattle.sd_bound.specs.Steady.{RecoversSteadily, IsSteadySince}
use Rattle.sd_beside.specs.deployment.Deployment.{Moment, steps_of, IsDeployment}

-- the events of a run
abbrev pub events_in : {S : Type 0} → List (Moment S) → List Event
events_in run = map (λ x. x.event) run

-- The run is a history, however long it is: the rules admit its events, and the steps that these make are the calls that were made, each with what the
-- device told. No event of it loses a message: what was not delivered is lost as the premise on losses counts it.
pub record IsItsHistory {S : Type 0} (setting : Setting) (run : List (Moment S)) : Type 0 where
  pub is : IsAdmitted setting (events_in run)
  pub steps : chronicle setting (events_in run) ≡ steps_of setting run
  pub calls : map (λ s. s.act) (steps_of setting run) ≡ map (λ x. x.act) run
  pub answers : map (λ s. s.told) (steps_of setting run) ≡ map (λ x. x.told) run

-- each run of a deployed fleet is its history
abbrev pub IsHistoryOf : {S : Type 0} → (S → Registers → Type 0) → Setting → Type 0
IsHistoryOf {S = S} Holds setting = (run : List (Moment S)) → IsDeployment Holds setting run → IsItsHistory setting run

-- and one that a replay accepts, up to 2 ^ 26 moments
abbrev pub IsReplayed : {S : Type 0} → (S → Registers → Type 0) → Setting → Type 0
IsReplayed {S = S} Holds setting =
    (run : List (Moment S)) → IsDeployment Holds setting run → length run ≤ 2 ^ 26 → IsHistory setting (events_in run)

-- under plans that meet five conditions, while all premises but start hold, parents of live devices close no loop and at most one acts as root
abbrev pub FleetStaysSafe : {S : Type 0} → (S → Registers → Type 0) → Setting → Type 0
FleetStaysSafe {S = S} Holds setting =
    (run : List (Moment S)) → IsDeployment Holds setting run → AreGuarded setting
    → IsTrue (all_but_start_hold setting (seen_of (steps_of setting run)))
    → IsSafe setting (steps_of setting run)

-- while clocks, oscillators and links are honest, each report contains its reference
abbrev pub FleetReportsContain : {S : Type 0} → (S → Registers → Type 0) → Setting → Type 0
FleetReportsContain {S = S} Holds setting =
    (run : List (Moment S)) → IsDeployment Holds setting run → IsTrue (is_honest setting (seen_of (steps_of setting run)))
    → IsTrue (list_all (λ r. contains r.report r.reference) (reports (steps_of setting run)))

-- no report of a live device is above its number of the drill
abbrev pub FleetStaysBelow : {S : Type 0} → (S → Registers → Type 0) → Network → Plan → Budget → DomainId → Type 0
FleetStaysBelow {S = S} Holds net plan budget f =
    (run : List (Moment S)) (d w : ℕ) (later : List Step) (s : Step) (earlier : List Step) (report : Report) → IsDeployment Holds (alone net plan) run
    → RecoversSteadily net plan budget f (events_in run) → IsWorst net plan budget f d w → steps_of (alone net plan) run ≡ later ++ s ∷ earlier
    → asked_report s ≡ Some (d, report) → IsTrue (is_counted (alone net plan) (seen_of earlier) d)
    → report.eps ≤ w

-- each live device that has such a number hears again of a root
abbrev pub FleetHearsAgain : {S : Type 0} → (S → Registers → Type 0) → Network → Plan → DomainId → Type 0
FleetHearsAgain {S = S} Holds net plan f =
    (run : List (Moment S)) (x : Moment S) (budget : Budget) (d w since : ℕ) → IsDeployment Holds (alone net plan) (x ∷ run)
    → IsSteadySince net plan f since (events_in (x ∷ run)) → IsWorst net plan budget f d w
    → IsTrue (is_counted (alone net plan) (seen_of (steps_of (alone net plan) run)) d) → since + recovery net plan < reference_of x.event
    → IsServed (steps_of (alone net plan) run) d since (reference_of x.event - silence net)
