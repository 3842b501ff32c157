-- An accepted event: what it needs of the parts of a replay, and for which runs these stand after it.
use Rattle.std.specs.Prelude.{◌≡◌, ℕ, ◌+◌, ◌^◌, ◌<◌, ◌≤◌, List, ◌∷◌, ◌++◌, [], length, Option, Some, None, IfSome, IsTrue, MatchOption, refl}
use Rattle.std.proofs.Common.{sym, ap, ◌∙◌, subst}
use Rattle.std.proofs.Props.{props}
use Rattle.std.proofs.Math.Logic.{∥∥₁_elim, ∥∥₁_map}
use Rattle.sd_plan.specs.topo.Network.{Network}
use Rattle.sd_plan.specs.topo.Topologies.{network}
use Rattle.sd_num.specs.declared.clock.Report.{Report}
use Rattle.sd_device.specs.declared.node.Node.{Ghosts}
use Rattle.sd_device.specs.msg.Observed.{ReportAt}
use Rattle.sd_device.specs.msg.Observing.{report_at}
use Rattle.sd_device.specs.declared.msg.observer.Observer as observers
use Rattle.sd_sched.specs.declared.Event.{Event}
use Rattle.sd_sched.specs.Events.{reference_of, is_ask}
use Rattle.sd_history.specs.World.{Setting}
use Rattle.sd_history.specs.Steps.{Step}
use Rattle.sd_history.specs.Nodes.{NodeStep, steps_of}
use Rattle.sd_history.specs.Lines.{lines_of, asked_report, reports}
use Rattle.sd_fleet.specs.declared.Outcome.{Outcome}
use Rattle.sd_fleet.specs.declared.fleet.Fleet.{Fleet}
use Rattle.sd_fleet.specs.Standing as fleets
use Rattle.sd_replay.specs.lines.Printed.{printed}
use Rattle.sd_replay.specs.declared.lines.findings.Findings.{Findings}
use Rattle.sd_replay.specs.lines.Findings.{IsOf, found_lines, found_bytes}
use Rattle.sd_replay.specs.declared.Tally.{Tally}
use Rattle.sd_replay.specs.declared.monitors.Monitors.{Monitors}
use Rattle.sd_replay.specs.declared.event_output.EventOutput.{EventOutput}
use Rattle.sd_replay.specs.Counting.{HasRoom, tally_with}
use Rattle.sd_replay.specs.Standing.{HasSeen, HasStep, Stands, HasRun}
use Rattle.sd_replay.proofs.Telling.{tally_room, tells_next, reports_same, reports_more}
use Rattle.sd_replay.proofs.Looking.{asks_by_report, numbers_fit}

-- a fact of what an option holds, where it merely holds
pub if_merely : {A : Type 0} (P : A → Type 0) → ((x : A) → IsProp (P x)) → (o : Option A) → ∥ IfSome o P ∥₁ → IfSome o P
if_merely P prop None there = tt
if_merely P prop (Some x) there = ∥∥₁_elim there (prop x) (λ fact. fact)

pub of_merely : (net : Network) (found : Findings) → ∥ IsOf net found ∥₁ → IsOf net found
of_merely net found there =
    record {
      looped = if_merely (λ d. d < length net.devices) (λ d. search props) found.looped (∥∥₁_map there (λ is. is.looped));
      first = if_merely (λ two. two.0 < length net.devices) (λ two. search props) found.roots (∥∥₁_map there (λ is. is.first));
      second = if_merely (λ two. two.1 < length net.devices) (λ two. search props) found.roots (∥∥₁_map there (λ is. is.second));
      asked = if_merely (λ told. told.0 < length net.devices) (λ told. search props) found.report (∥∥₁_map there (λ is. is.asked));
    }

pub room_merely : (tally : Tally) → ∥ HasRoom tally ∥₁ → HasRoom tally
room_merely tally there =
    record {
      events = ∥∥₁_elim there (search props) (λ has. has.events);
      reports = ∥∥₁_elim there (search props) (λ has. has.reports);
      broken = ∥∥₁_elim there (search props) (λ has. has.broken);
      alarms = ∥∥₁_elim there (search props) (λ has. has.alarms);
    }

module _ {N V : Type 0} (g : Ghosts N) (o : observers.Ghosts V) (before : Fleet N g) (monitors : Monitors) (event_output : EventOutput) (observer : V)
    (after : Fleet N g) (e : Event) (outcome : Outcome)
    (accepts : (setting : Setting) (run : List (NodeStep N)) → fleets.StandsFor g before setting run → fleets.IsAccepted g after setting run e outcome) where
  -- the fleet has made a step
  pub has_step : HasRun g o before monitors event_output observer → HasStep g monitors after e outcome
  has_step has = record { setting = has.setting; run = has.steps; accepted = accepts has.setting has.steps has.stands.made; has_seen = has.stands.has_seen }

  pub numbers_merely : ∥ HasRun g o before monitors event_output observer ∥₁ → outcome.first_sent + outcome.sent < 2 ^ 64
  numbers_merely there = ∥∥₁_elim there (search props) (λ has. fit has)
    where
      fit : HasRun g o before monitors event_output observer → outcome.first_sent + outcome.sent < 2 ^ 64
      fit has =
          let accepted : fleets.IsAccepted g after has.setting has.steps e outcome = accepts has.setting has.steps has.stands.made in
          subst (λ (out : Outcome). out.first_sent + out.sent < 2 ^ 64) (sym accepted.comes)
          (numbers_fit has.setting accepted.next.step (steps_of has.steps) has.stands.sound.network accepted.stands.fabric.accepted)

  -- the tally has room for it
  pub tally_merely : ∥ HasRun g o before monitors event_output observer ∥₁ → HasRoom event_output.tally
  tally_merely there =
      room_merely event_output.tally
      (∥∥₁_map there (λ has. subst HasRoom (sym has.stands.tells.tally) (tally_room has.setting (steps_of has.steps) has.stands.made.fabric.accepted)))

  -- what was found of it is of the topology
  pub devices_merely : (found : Findings)
      → ((setting : Setting) (run : List (NodeStep N)) → fleets.StandsFor g before setting run → HasSeen monitors setting (steps_of run)
      → IsOf setting.net found)
      → ∥ HasRun g o before monitors event_output observer ∥₁ → IsOf (network event_output.topology) found
  devices_merely found of there =
      of_merely (network event_output.topology) found
      (∥∥₁_map there (λ has.
      subst (λ net. IsOf net found) (sym has.stands.tells.net) (of has.setting has.steps has.stands.made has.stands.has_seen)))

  -- where there is a report, the observer has room for it
  pub ready_merely : (told : ℕ × Report) → outcome.report ≡ Some told → (IsTrue (is_ask e) → 1 ≤ o.room observer)
      → ∥ HasRun g o before monitors event_output observer ∥₁ → 1 ≤ o.room observer
  ready_merely told is ready there = ∥∥₁_elim there (search props) (λ has. made has)
    where
      made : HasRun g o before monitors event_output observer → 1 ≤ o.room observer
      made has =
          let accepted : fleets.IsAccepted g after has.setting has.steps e outcome = accepts has.setting has.steps has.stands.made in
          ready (ap is_ask (sym accepted.happens) ∙ asks_by_report accepted.next.step told (ap (λ (out : Outcome). out.report) (sym accepted.comes) ∙ is))

-- Standing on

-- what was done with an accepted event
pub record IsDone {N V : Type 0} (g : Ghosts N) (o : observers.Ghosts V) (before after : Fleet N g) (monitors onlooked : Monitors)
    (event_output noted : EventOutput) (observer told : V) (e : Event) (outcome : Outcome) (found : Findings) : Type 0 where
  pub accepts : (setting : Setting) (run : List (NodeStep N)) → fleets.StandsFor g before setting run → fleets.IsAccepted g after setting run e outcome
  pub has_seen : (setting : Setting) (run : List (NodeStep N)) (made : fleets.StandsFor g before setting run)
      → HasSeen monitors setting (steps_of run) → HasSeen onlooked setting ((accepts setting run made).next.step ∷ steps_of run)
  pub finds : (setting : Setting) (run : List (NodeStep N)) (made : fleets.StandsFor g before setting run)
      → HasSeen monitors setting (steps_of run) → found_lines found ≡ lines_of setting ((accepts setting run made).next.step ∷ steps_of run)
  pub report : found.report ≡ outcome.report
  pub topology : noted.topology ≡ event_output.topology
  pub tally : noted.tally ≡ tally_with event_output.tally found
  pub lines : printed noted.lines ≡ found_bytes (network event_output.topology) (event_output.tally.events + 1) found
  pub ended : noted.ended ≡ outcome.ended
  pub tells : MatchOption outcome.report (told ≡ observer) (λ report. (reports_ : List ReportAt) → o.stands observer reports_
      → o.stands told (reports_ ++ report_at noted.tally.events report.0 (reference_of e) report.1 ∷ []))

module _ {N V : Type 0} (g : Ghosts N) (o : observers.Ghosts V) (before after : Fleet N g) (monitors onlooked : Monitors) (event_output noted : EventOutput)
    (observer told : V) (e : Event) (outcome : Outcome) (found : Findings)
    (done : IsDone g o before after monitors onlooked event_output noted observer told e outcome found) (setting : Setting) (run : List (NodeStep N))
    (stands : Stands g o before monitors event_output observer setting run) where
  abbrev accepted : fleets.IsAccepted g after setting run e outcome
  accepted = done.accepts setting run stands.made

  abbrev step : Step
  step = accepted.next.step

  -- the line of its report is the number of its event
  line_is : noted.tally.events ≡ length (steps_of run) + 1
  line_is = ap (λ (t : Tally). t.events) done.tally ∙ ap (λ (t : Tally). t.events + 1) stands.tells.tally

  told_on : (report : Option (ℕ × Report)) → outcome.report ≡ report
      → MatchOption report (told ≡ observer) (λ one. (reports_ : List ReportAt) → o.stands observer reports_
      → o.stands told (reports_ ++ report_at noted.tally.events one.0 (reference_of e) one.1 ∷ []))
      → o.stands told (reports (step ∷ steps_of run))
  told_on None is same =
      let none : asked_report step ≡ None = ap (λ (out : Outcome). out.report) (sym accepted.comes) ∙ is in
      subst (λ xs. o.stands told xs) (sym (reports_same step (steps_of run) none)) (subst (λ v. o.stands v (reports (steps_of run))) (sym same) stands.told)
  told_on (Some one) is more =
      let some : asked_report step ≡ Some one = ap (λ (out : Outcome). out.report) (sym accepted.comes) ∙ is in
      subst (λ xs. o.stands told xs)
      (ap (λ n. reports (steps_of run) ++ report_at n one.0 (reference_of e) one.1 ∷ []) line_is
      ∙ ap (λ r. reports (steps_of run) ++ report_at (length (steps_of run) + 1) one.0 r one.1 ∷ []) (ap reference_of (sym accepted.happens))
      ∙ sym (reports_more step (steps_of run) one.0 one.1 some)) (more (reports (steps_of run)) stands.told)

  -- the parts stand for the run with the step
  pub stands_on : Stands g o after onlooked noted told setting (accepted.next ∷ run)
  stands_on =
      record {
        sound = stands.sound;
        made = accepted.stands;
        has_seen = done.has_seen setting run stands.made stands.has_seen;
        tells =
            tells_next setting step (steps_of run) accepted.stands.fabric.accepted found (done.finds setting run stands.made stands.has_seen)
            (done.report ∙ ap (λ (out : Outcome). out.report) accepted.comes) event_output noted stands.tells done.topology done.tally done.lines
            (done.ended ∙ ap (λ (out : Outcome). out.ended) accepted.comes);
        told = told_on outcome.report refl done.tells;
      }

-- and so there is a run for which they stand
pub run_on : {N V : Type 0} (g : Ghosts N) (o : observers.Ghosts V) (before after : Fleet N g) (monitors onlooked : Monitors) (event_output noted : EventOutput)
    (observer told : V) (e : Event) (outcome : Outcome) (found : Findings)
    → IsDone g o before after monitors onlooked event_output noted observer told e outcome found → HasRun g o before monitors event_output observer
    → HasRun g o after onlooked noted told
run_on g o before after monitors onlooked event_output noted observer told e outcome found done has =
    record {
      setting = has.setting;
      steps = (done.accepts has.setting has.steps has.stands.made).next ∷ has.steps;
      stands = stands_on g o before after monitors onlooked event_output noted observer told e outcome found done has.setting has.steps has.stands;
    }
