-- The event happens in the fleet, is looked at, is noted and is told.
use Rattle.std.proofs.Common.{◌≡◌, ◌∙◌, ◌+◌, ◌++◌, ◌∷◌, [], ℕ, List, Option, Some, MatchOption, refl, sym, ap, subst}
use Rattle.std.proofs.Math.Logic.{∥∥₁_map}
use Rattle.sd_plan.specs.topo.Topologies.{network}
use Rattle.sd_num.specs.declared.clock.Report.{Report}
use Rattle.sd_device.specs.msg.Observed.{ReportAt}
use Rattle.sd_device.specs.msg.Observing.{report_at}
use Rattle.sd_sched.specs.Events.{reference_of}
use Rattle.sd_history.specs.Nodes.{steps_of}
use Rattle.sd_fleet.proofs.Refused.{refusal_is}
use Rattle.sd_replay.specs.declared.faults.ReplayFault.TheVariants.{Memory}
use Rattle.sd_replay.specs.FleetFaults.{of_fleet}
use Rattle.sd_replay.specs.Counting.{tally_with}
use Rattle.sd_replay.specs.lines.Findings.{IsOf, found_bytes}
use Rattle.sd_replay.specs.Troubles.{found_by, found_with}
use Rattle.sd_replay.proofs.Answered.{answered_done, answered_fault}
use Rattle.sd_replay.proofs.Causes.{told_as, told_cause, told_of_fleet, unrefused}
use Rattle.sd_replay.proofs.Going.{with_fleet, stands_prepared, stands_with_room}
use Rattle.sd_replay.proofs.Happening.{IsDone, has_step, numbers_merely, tally_merely, devices_merely, ready_merely, stands_on, run_on}
use Rattle.sd_replay.proofs.replay.Replay.advance.Given.{Over}
use Rattle.sd_replay.proofs.replay.Replay.advance.Goals as goal

pub invariant_of-self : goal.invariant_of-self
invariant_of-self g c =
    record {
      run =
          ∥∥₁_map c.args.self.now.run
          (with_fleet g.N.Node g.V.Observer c.args.self.now.fleet c.prepare.new.self c.args.self.now.monitors c.args.self.now.event_output
          c.args.self.now.observer c.prepare.ensures.stands);
    }

pub look-trouble-requires-clause-step : goal.look-trouble-requires-clause-step
look-trouble-requires-clause-step g c =
    ∥∥₁_map c.ready.new.self.run
    (has_step g.N.Node g.V.Observer c.ready.new.self.fleet c.ready.new.self.monitors c.ready.new.self.event_output c.ready.new.self.observer c.happen.new.self
    c.args.event.now c.happen.new.outcome c.happen.ensures.accepted)

pub look-trouble-requires-clause-numbers : goal.look-trouble-requires-clause-numbers
look-trouble-requires-clause-numbers g c =
    numbers_merely g.N.Node g.V.Observer c.ready.new.self.fleet c.ready.new.self.monitors c.ready.new.self.event_output c.ready.new.self.observer
    c.happen.new.self c.args.event.now c.happen.new.outcome c.happen.ensures.accepted
    c.ready.new.self.run

pub note-requires-clause-room : goal.note-requires-clause-room
note-requires-clause-room g c =
    tally_merely g.N.Node g.V.Observer c.ready.new.self.fleet c.ready.new.self.monitors c.ready.new.self.event_output c.ready.new.self.observer
    c.happen.new.self c.args.event.now c.happen.new.outcome c.happen.ensures.accepted
    c.ready.new.self.run

pub note-requires-clause-devices : goal.note-requires-clause-devices
note-requires-clause-devices g c =
    subst (λ (r : ℕ). IsOf (network c.ready.new.self.event_output.topology) (found_by c.look-trouble.result c.happen.new.outcome.report r))
    (sym c.reference-reference.ensures)
    (devices_merely g.N.Node g.V.Observer c.ready.new.self.fleet c.ready.new.self.monitors c.ready.new.self.event_output c.ready.new.self.observer
    c.happen.new.self c.args.event.now c.happen.new.outcome c.happen.ensures.accepted
    (found_with c.look-trouble.result c.args.event.now c.happen.new.outcome)
    (λ setting run made. c.look-trouble.ensures.devices setting run (c.happen.ensures.accepted setting run made)) c.ready.new.self.run)

pub seen-requires-clause-ready : goal.seen-requires-clause-ready
seen-requires-clause-ready g c =
    let some : c.happen.new.outcome.report ≡ Some (c.in-Some.d, c.in-Some.report) = cc (c.in-Some.is, c.in-Some.d-is, c.in-Some.report-is) in
    ready_merely g.N.Node g.V.Observer c.ready.new.self.fleet c.ready.new.self.monitors c.ready.new.self.event_output c.ready.new.self.observer
    c.happen.new.self c.args.event.now c.happen.new.outcome c.happen.ensures.accepted
    (c.in-Some.d, c.in-Some.report) some c.in-Ok.ensures.observer c.ready.new.self.run

-- a fact of one of two that are the same
moved : {A : Type 0} (P : A → Type 0) {x y : A} → P x → x ≡ y → P y
moved P fact same = subst P same fact

-- a report is told
told : (g : Over) (c : goal.After-seen g)
    → IsDone g.N.Node g.V.Observer c.ready.new.self.fleet c.happen.new.self c.ready.new.self.monitors c.look-trouble.new.self c.ready.new.self.event_output
    c.note.new.self c.ready.new.self.observer c.seen.new.self c.args.event.now c.happen.new.outcome
    (found_with c.look-trouble.result c.args.event.now c.happen.new.outcome)
told g c =
    let some : c.happen.new.outcome.report ≡ Some (c.in-Some.d, c.in-Some.report) = cc (c.in-Some.is, c.in-Some.d-is, c.in-Some.report-is) in
    record {
      accepts = c.happen.ensures.accepted;
      has_seen = λ setting run made. c.look-trouble.ensures.stands setting run (c.happen.ensures.accepted setting run made);
      finds = λ setting run made. c.look-trouble.ensures.found setting run (c.happen.ensures.accepted setting run made);
      report = refl;
      topology = c.note.ensures.noted.topology;
      tally =
          c.note.ensures.noted.tally
          ∙ ap (λ (r : ℕ). tally_with c.ready.new.self.event_output.tally (found_by c.look-trouble.result c.happen.new.outcome.report r)) c.reference-reference.ensures;
      lines =
          c.note.ensures.noted.lines
          ∙ ap (λ (r : ℕ). found_bytes (network c.ready.new.self.event_output.topology) (c.ready.new.self.event_output.tally.events + 1)
          (found_by c.look-trouble.result c.happen.new.outcome.report r)) c.reference-reference.ensures;
      ended = c.note.ensures.ended;
      tells =
          subst
          (λ (o : Option (ℕ × Report)). MatchOption o (c.seen.new.self ≡ c.ready.new.self.observer) (λ report. (reports_ : List ReportAt)
          → g.V.Observer.stands c.ready.new.self.observer reports_
          → g.V.Observer.stands c.seen.new.self (reports_ ++ report_at c.note.new.self.tally.events report.0 (reference_of c.args.event.now) report.1 ∷ [])))
          (sym some)
          (λ reports_ stands.
          subst (λ (r : ℕ). g.V.Observer.stands c.seen.new.self (reports_ ++ report_at c.note.new.self.tally.events c.in-Some.d r c.in-Some.report ∷ []))
          c.reference-reference.ensures
          (moved (λ (xs : List ReportAt). g.V.Observer.stands c.seen.new.self xs) (c.seen.ensures.told reports_ stands)
          (cc (c.in-Some.is, c.in-Some.d-is, c.in-Some.report-is))));
    }

-- nothing is told
untold : (g : Over) (c : goal.In_default-report g)
    → IsDone g.N.Node g.V.Observer c.ready.new.self.fleet c.happen.new.self c.ready.new.self.monitors c.look-trouble.new.self c.ready.new.self.event_output
    c.note.new.self c.ready.new.self.observer c.ready.new.self.observer c.args.event.now
    c.happen.new.outcome (found_with c.look-trouble.result c.args.event.now c.happen.new.outcome)
untold g c =
    record {
      accepts = c.happen.ensures.accepted;
      has_seen = λ setting run made. c.look-trouble.ensures.stands setting run (c.happen.ensures.accepted setting run made);
      finds = λ setting run made. c.look-trouble.ensures.found setting run (c.happen.ensures.accepted setting run made);
      report = refl;
      topology = c.note.ensures.noted.topology;
      tally =
          c.note.ensures.noted.tally
          ∙ ap (λ (r : ℕ). tally_with c.ready.new.self.event_output.tally (found_by c.look-trouble.result c.happen.new.outcome.report r)) c.reference-reference.ensures;
      lines =
          c.note.ensures.noted.lines
          ∙ ap (λ (r : ℕ). found_bytes (network c.ready.new.self.event_output.topology) (c.ready.new.self.event_output.tally.events + 1)
          (found_by c.look-trouble.result c.happen.new.outcome.report r)) c.reference-reference.ensures;
      ended = c.note.ensures.ended;
      tells =
          subst
          (λ (o : Option (ℕ × Report)). MatchOption o (c.ready.new.self.observer ≡ c.ready.new.self.observer) (λ report. (reports_ : List ReportAt)
          → g.V.Observer.stands c.ready.new.self.observer reports_
          → g.V.Observer.stands c.ready.new.self.observer (reports_
          ++ report_at c.note.new.self.tally.events report.0 (reference_of c.args.event.now) report.1 ∷ [])))
          (sym c.in_default-report.is) refl;
    }

pub invariant_of-self-in-Some : goal.invariant_of-self-in-Some
invariant_of-self-in-Some g c =
    record {
      run =
          ∥∥₁_map c.ready.new.self.run
          (run_on g.N.Node g.V.Observer c.ready.new.self.fleet c.happen.new.self c.ready.new.self.monitors c.look-trouble.new.self
          c.ready.new.self.event_output c.note.new.self c.ready.new.self.observer c.seen.new.self c.args.event.now c.happen.new.outcome
          (found_with c.look-trouble.result c.args.event.now c.happen.new.outcome) (told g c));
    }

pub invariant_of-self-in_default-report : goal.invariant_of-self-in_default-report
invariant_of-self-in_default-report g c =
    record {
      run =
          ∥∥₁_map c.ready.new.self.run
          (run_on g.N.Node g.V.Observer c.ready.new.self.fleet c.happen.new.self c.ready.new.self.monitors c.look-trouble.new.self
          c.ready.new.self.event_output c.note.new.self c.ready.new.self.observer c.ready.new.self.observer c.args.event.now
          c.happen.new.outcome (found_with c.look-trouble.result c.args.event.now c.happen.new.outcome) (untold g c));
    }

pub returns-in-Some-clause-accepted : goal.returns-in-Some-clause-accepted
unfolding told
returns-in-Some-clause-accepted g c = λ setting run stands.
    let ready = stands_with_room g.N.Node g.V.Observer setting run c.prepare.ensures.stands c.ready.ensures.fleet c.ready.ensures.event_output
    c.ready.ensures.has_seen c.ready.ensures.told stands in
    let accepted = c.happen.ensures.accepted setting run ready.made in
    let stands_after =
    stands_on g.N.Node g.V.Observer c.ready.new.self.fleet c.happen.new.self c.ready.new.self.monitors c.look-trouble.new.self c.ready.new.self.event_output
    c.note.new.self c.ready.new.self.observer c.seen.new.self c.args.event.now c.happen.new.outcome
    (found_with c.look-trouble.result c.args.event.now c.happen.new.outcome) (told g c.before) setting run ready in
    record { stepped = record { next = accepted.next; happens = accepted.happens; stands = stands_after }; comes = accepted.comes }

pub returns-in_default-report-clause-accepted : goal.returns-in_default-report-clause-accepted
unfolding untold
returns-in_default-report-clause-accepted g c = λ setting run stands.
    let ready = stands_with_room g.N.Node g.V.Observer setting run c.prepare.ensures.stands c.ready.ensures.fleet c.ready.ensures.event_output
    c.ready.ensures.has_seen c.ready.ensures.told stands in
    let accepted = c.happen.ensures.accepted setting run ready.made in
    let stands_after =
    stands_on g.N.Node g.V.Observer c.ready.new.self.fleet c.happen.new.self c.ready.new.self.monitors c.look-trouble.new.self c.ready.new.self.event_output
    c.note.new.self c.ready.new.self.observer c.ready.new.self.observer c.args.event.now c.happen.new.outcome
    (found_with c.look-trouble.result c.args.event.now c.happen.new.outcome) (untold g c.before) setting run ready in
    record { stepped = record { next = accepted.next; happens = accepted.happens; stands = stands_after }; comes = accepted.comes }

-- so it was answered
pub returns-in-Some-clause-answered : goal.returns-in-Some-clause-answered
returns-in-Some-clause-answered g c =
    answered_done g.N.Node g.V.Observer c.args.self.now _ c.args.event.now _
    (λ setting run stands. (returns-in-Some-clause-accepted g c setting run stands).stepped)

pub returns-in_default-report-clause-answered : goal.returns-in_default-report-clause-answered
returns-in_default-report-clause-answered g c =
    answered_done g.N.Node g.V.Observer c.args.self.now _ c.args.event.now _
    (λ setting run stands. (returns-in_default-report-clause-accepted g c setting run stands).stepped)

-- the fleet answers a fault
pub returns-in_err-most-clause-answered : goal.returns-in_err-most-clause-answered
returns-in_err-most-clause-answered g c =
    let told = told_as c.from_residual.result (of_fleet c.in_err-most.field-0.0) c.from_residual.ensures.1 in
    answered_fault g.N.Node g.V.Observer c.args.self.now _ c.args.event.now c.from_residual.result (of_fleet c.in_err-most.field-0.0) told
    (λ setting run
    stands. told_cause setting (steps_of run) c.args.event.now c.in_err-most.field-0.0 c.from_residual.result told
    (c.in_err-most.ensures.fault setting run stands.made))
    (λ setting run
    stands. (
      stands_prepared g.N.Node g.V.Observer c.args.self.now.fleet c.prepare.new.self c.args.self.now.monitors c.args.self.now.event_output
          c.args.self.now.observer setting run c.prepare.ensures.stands stands,
      told_of_fleet setting (steps_of run) c.args.event.now c.in_err-most.field-0.0
          (c.in_err-most.ensures.fault setting run stands.made),
    ))

-- there is no room for an event that the history does not refuse
pub returns-in_default-clause-answered : goal.returns-in_default-clause-answered
returns-in_default-clause-answered g c =
    answered_fault g.N.Node g.V.Observer c.args.self.now _ c.args.event.now _ Memory refl
    (λ setting run
    stands. unrefused _ setting (steps_of run) c.args.event.now
    (sym (refusal_is setting c.prepare.new.self.fabric (steps_of run) c.args.event.now (c.prepare.ensures.stands setting run stands.made).fabric)
    ∙ c.in_ok-most.ensures.prepared.accepted))
    (λ setting run
    stands. (
      stands_with_room g.N.Node g.V.Observer setting run c.prepare.ensures.stands c.ready.ensures.fleet c.ready.ensures.event_output
          c.ready.ensures.has_seen c.ready.ensures.told stands,
      (
        sym (refusal_is setting c.prepare.new.self.fabric (steps_of run) c.args.event.now (c.prepare.ensures.stands setting run stands.made).fabric)
            ∙ c.in_ok-most.ensures.prepared.accepted,
        c.in_default.ensures.memory,
      ),
    ))
