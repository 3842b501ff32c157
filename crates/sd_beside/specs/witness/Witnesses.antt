-- What is shown of the texts: all that safety and the bound of the drill ask for, and what happens at which line of the schedule.
use Rattle.std.specs.Prelude.{◌≡◌, ℕ, ◌≤◌, true, false, List, [], ◌∷◌, length, reverse, take, Some, Ok}
use Rattle.sd_topotext.specs.Meaning.{network_of}
use Rattle.sd_topotext.specs.Reading as toml
use Rattle.sd_plantext.specs.Meaning.{plan_of}
use Rattle.sd_plantext.specs.Reading as json
use Rattle.sd_plan.specs.topo.Network.{Network}
use Rattle.sd_plan.specs.declared.topo.Thing.TheVariants as thing
use Rattle.sd_plan.specs.declared.domain.DomainId.{DomainId}
use Rattle.sd_plan.specs.declared.domain.DomainId.TheVariants as domain
use Rattle.sd_plan.specs.declared.Plan.{Plan}
use Rattle.sd_checker.specs.Conditions.{IsAccepted}
use Rattle.sd_drill.specs.declared.Budget.{Budget}
use Rattle.sd_drill.specs.Drill.{IsWorst}
use Rattle.sd_num.specs.declared.clock.Report.{Report}
use Rattle.sd_device.specs.msg.Observed.{ReportAt}
use Rattle.sd_sched.specs.declared.Event.{Event}
use Rattle.sd_history.specs.World.{Seen, has_failed, window_is_open, has_commit, epoch_in_force, alone}
use Rattle.sd_history.specs.Steps.{Step, seen_of, epoch_in, given_in, has_settled}
use Rattle.sd_history.specs.Chronicle.{chronicle, IsHistory}
use Rattle.sd_history.specs.Premises.{start_holds, drift_holds, delay_holds, tick_holds, loss_holds, domain_holds, renew_holds, all_hold}
use Rattle.sd_history.specs.Lines.{reports, roots}
use Rattle.sd_safety.specs.invariant.Coming.{IsFair, IsClean}
use Rattle.sd_safety.specs.invariant.Kept.{IsSafe}
use Rattle.sd_bound.specs.Bound.{FailsAtOnce}
use Rattle.sd_bound.specs.Recovering.{Recovers, steps_under}
use Rattle.sd_beside.specs.witness.Shared.{text_of, budget, last_report, was_counted, report}
use Rattle.sd_beside.specs.witness.Texts.{topology_lines, first_plan_lines, second_plan_lines, schedule_lines}
use Rattle.sd_beside.specs.witness.Schedules.{events_of, after_line}
use Rattle.sd_beside.specs.witness.Values.{network, first_plan, second_plan, setting}

-- a report with its line, its device and its reference time
abbrev pub report_at : ℕ → ℕ → ℕ → Report → ReportAt
report_at line device reference told = record { line = line; device = device; reference = reference; report = told }

-- the state after the first lines, under both plans
abbrev pub steps : List Event → ℕ → List Step
steps events n = after_line setting events n

-- what is seen of the first lines
abbrev pub seen : List Event → ℕ → List Seen
seen events n = seen_of (steps events n)

-- the state after all of them
abbrev pub whole : List Event → List Step
whole events = chronicle setting (reverse events)

-- A renewal

-- the texts say these values and these events
pub record Say (events : List Event) : Type 0 where
  pub topology : network_of (toml.tree_of (text_of topology_lines)) ≡ Ok network
  pub first_plan : plan_of network (json.tree_of (text_of first_plan_lines)) ≡ Ok first_plan
  pub second_plan : plan_of network (json.tree_of (text_of second_plan_lines)) ≡ Ok second_plan
  pub schedule : events_of (text_of schedule_lines) ≡ Ok events

-- both plans are accepted, each event is accepted after those before it, and each premise holds to the end
pub record MeetsAll (events : List Event) : Type 0 where
  pub count : length events ≡ 110
  pub first_accepted : IsAccepted network first_plan
  pub second_accepted : IsAccepted network second_plan
  pub history : IsHistory setting (reverse events)
  pub start : start_holds (seen_of (whole events)) ≡ true
  pub drift : drift_holds setting (seen_of (whole events)) ≡ true
  pub delay : delay_holds setting (seen_of (whole events)) ≡ true
  pub tick : tick_holds setting (seen_of (whole events)) ≡ true
  pub loss : loss_holds setting (seen_of (whole events)) ≡ true
  pub domain : domain_holds setting (seen_of (whole events)) ≡ true
  pub renew : renew_holds setting (seen_of (whole events)) ≡ true
  pub all : all_hold setting (seen_of (whole events)) ≡ true

-- What happens, by line. Device 0 is the root, 1 the backup root, 2 the other one.

-- the root fails, and the backup root takes over
pub record TakesOver (events : List Event) : Type 0 where
  pub root_acts : roots setting (steps events 19) ≡ 0 ∷ []
  pub root_fails : has_failed (seen events 20) (thing.Device 0) ≡ true
  pub nobody_acts : roots setting (steps events 20) ≡ []
  pub nobody_acts_yet : roots setting (steps events 84) ≡ []
  pub backup_root_acts : roots setting (steps events 85) ≡ 1 ∷ []

-- the second plan is staged, given to both devices that are left, and committed, and both enter it
pub record Commits (events : List Event) : Type 0 where
  pub not_staged : window_is_open (seen events 89) ≡ false
  pub staged : window_is_open (seen events 90) ≡ true
  pub given_first : given_in (steps events 91) 1 ≡ Some 2
  pub given_second : given_in (steps events 92) 2 ≡ Some 2
  pub not_committed : has_commit (seen events 92) ≡ false
  pub committed : has_commit (seen events 93) ≡ true
  pub entered_first : epoch_in (steps events 93) 1 ≡ Some 2
  pub not_entered : epoch_in (steps events 98) 2 ≡ Some 1
  pub entered_second : epoch_in (steps events 99) 2 ≡ Some 2

-- both are sealed, and the window closes
pub record Closes (events : List Event) : Type 0 where
  pub sealed_first : has_settled (steps events 100) 2 1 ≡ true
  pub open_still : window_is_open (seen events 100) ≡ true
  pub old_epoch : epoch_in_force (seen events 100) ≡ 1
  pub sealed_second : has_settled (steps events 101) 2 2 ≡ true
  pub closed : window_is_open (seen events 101) ≡ false
  pub new_epoch : epoch_in_force (seen events 101) ≡ 2
  pub new_root_acts : roots setting (steps events 101) ≡ 1 ∷ []

-- there are seven reports, and the last two are of both devices of the second plan, in it
pub record BothReport (events : List Event) : Type 0 where
  pub first : last_report (steps events 108) ≡ Some (1, report 3204970533 943355)
  pub second : last_report (steps events 109) ≡ Some (2, report 3204971306 1244216)
  pub counts : was_counted setting (steps events 109) 2 ≡ true
  pub of_new_plan : epoch_in (steps events 109) 2 ≡ Some 2
  pub all : reports (whole events)
      ≡ report_at 17 0 245000000 (report 245004900 50501)
      ∷ report_at 18 1 245000000 (report 245148133 351390)
      ∷ report_at 19 2 245000000 (report 244972469 351355)
      ∷ report_at 88 1 2885000000 (report 2884989733 879359)
      ∷ report_at 89 2 2885000000 (report 2885262869 879413)
      ∷ report_at 108 1 3205000000 (report 3204970533 943355)
      ∷ report_at 109 2 3205000000 (report 3204971306 1244216)
      ∷ []

-- the texts say a history to which the theorem on safety applies, and this happens in it
pub record IsRenewal (events : List Event) : Type 0 where
  pub says : Say events
  pub meets : MeetsAll events
  pub takes_over : TakesOver events
  pub commits : Commits events
  pub closes : Closes events
  pub report : BothReport events
  pub fair : IsFair setting
  pub clean : IsClean setting (reverse events)
  pub safe : IsSafe setting (whole events)

-- A recovery

-- A history under one plan to which the bound of the drill applies, in which all things of the domain fail. Its last event is a report of the
-- device, whose uncertainty is at most the bound.
pub record IsBounded (net : Network) (plan : Plan) (budget : Budget) (f : DomainId) (d : ℕ) (report : Report) (w : ℕ) (history : List Event) : Type 0 where
  pub recovers : Recovers net plan budget f history
  pub reference : ℕ
  pub fails : FailsAtOnce net f (seen_of (steps_under net plan history)) reference
  pub bound : IsWorst net plan budget f d w
  pub reported : last_report (steps_under net plan history) ≡ Some (d, report)
  pub counts : was_counted (alone net plan) (steps_under net plan history) d ≡ true
  pub below : report.eps ≤ w

-- the same schedule up to its two reports before the renewal: the root fails, the backup root acts, and each report is below its bound
pub record IsRecovery (events : List Event) : Type 0 where
  pub root_acts : roots (alone network first_plan) (after_line (alone network first_plan) events 19) ≡ 0 ∷ []
  pub nobody_acts : roots (alone network first_plan) (after_line (alone network first_plan) events 20) ≡ []
  pub backup_root_acts : roots (alone network first_plan) (after_line (alone network first_plan) events 85) ≡ 1 ∷ []
  pub first : IsBounded network first_plan budget (domain.Device 0) 1 (report 2884989733 879359) 4515461 (reverse (take 88 events))
  pub second : IsBounded network first_plan budget (domain.Device 0) 2 (report 2885262869 879413) 5048333 (reverse (take 89 events))
