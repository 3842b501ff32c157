use Rattle.std.proofs.Common.{ℕ, ◌≡◌, Bool, false, sym, ap, ◌∙◌, subst, arith}
use Rattle.sd_monitors.specs.declared.loss.flights.WaitingFlight.{WaitingFlight}
use Rattle.sd_monitors.specs.declared.loss.flights.interruptions.Interruptions.{Interruptions}
use Rattle.sd_monitors.specs.loss.flights.Runs.{HasLongRun}
use Rattle.sd_monitors.specs.loss.flights.Interrupted.{is_interrupted}
use Rattle.sd_monitors.specs.loss.flights.RunsView.{has_round}
use Rattle.sd_monitors.specs.loss.flights.WaitingView.{waiting_at}
use Rattle.sd_monitors.specs.loss.flights.InterruptionsView.{mark_of}
use Rattle.sd_monitors.proofs.loss.rounds.Judging.{judges_interrupted, judges_lost}
use Rattle.sd_monitors.proofs.loss.rounds.Rounds.judge_each.Goals as goal

-- the interruptions stay as they were when the judging began
whole_then : (was now : Interruptions) (f : WaitingFlight) (cut : Bool) → now ≡ was → cut ≡ is_interrupted (mark_of now) f → cut ≡ false
    → is_interrupted (mark_of was) f ≡ false
whole_then was now f cut same is none = ap (λ k. is_interrupted (mark_of k) f) (sym same) ∙ sym is ∙ none

pub returns-then-spoil-clause-only : goal.returns-then-spoil-clause-only
returns-then-spoil-clause-only c =
    let was = c.args.self.now in
    let now = c.overdue.self in
    let found = c.in-Some.ensures in
    let whole = whole_then was.interruptions now.interruptions c.in-Some.flight c.interrupted.result c.overdue.invariant.interruptions
    c.interrupted.ensures c.if-interrupted.false in
    (judges_lost (waiting_at was.waiting) (waiting_at now.waiting) (waiting_at c.next_overdue.new.self) (mark_of was.interruptions) c.args.reference
    (has_round was.runs) (has_round now.runs) c.in-Some.flight
    c.overdue.invariant.judges found.flight.0 found.flight.1 found.flights (has_round c.spoil.new.self) whole c.spoil.ensures.rounds).only

pub returns-then-spoil-clause-long : goal.returns-then-spoil-clause-long
returns-then-spoil-clause-long c now =
    subst (λ (n : ℕ). HasLongRun n (has_round c.spoil.new.self)) c.overdue.invariant.limit (c.spoil.ensures.long c.if-spoil.true)

pub overdue-preserved : goal.overdue-preserved
overdue-preserved c =
    let was = c.args.self.now in
    let now = c.overdue.self in
    let found = c.in-Some.ensures in
    let limit = c.overdue.invariant.limit in
    let whole = whole_then was.interruptions now.interruptions c.in-Some.flight c.interrupted.result c.overdue.invariant.interruptions
    c.interrupted.ensures c.if-interrupted.false in
    record {
      judges = judges_lost (waiting_at was.waiting) (waiting_at now.waiting) (waiting_at c.next_overdue.new.self) (mark_of was.interruptions) c.args.reference
          (has_round was.runs) (has_round now.runs) c.in-Some.flight
          c.overdue.invariant.judges found.flight.0 found.flight.1 found.flights (has_round c.spoil.new.self) whole c.spoil.ensures.rounds;
      short = λ none long. c.spoil.ensures.short c.if-spoil.false
          (λ old. c.overdue.invariant.short none (subst (λ (n : ℕ). HasLongRun n (has_round now.runs)) limit old))
          (subst (λ (n : ℕ). HasLongRun n (has_round c.spoil.new.self)) (sym limit) long);
      room = omega (arith, c.overdue.invariant.room, found.count, found.room, c.spoil.ensures.room, now.room);
      interruptions = c.overdue.invariant.interruptions;
      limit = limit;
    }

pub overdue-preserved-then-interrupted : goal.overdue-preserved-then-interrupted
overdue-preserved-then-interrupted c =
    let was = c.args.self.now in
    let now = c.overdue.self in
    let found = c.in-Some.ensures in
    let cut = ap (λ (k : Interruptions). is_interrupted (mark_of k) c.in-Some.flight) (sym c.overdue.invariant.interruptions) ∙ sym c.interrupted.ensures
    ∙ c.if-interrupted.true in
    record {
      judges = judges_interrupted (waiting_at was.waiting) (waiting_at now.waiting) (waiting_at c.next_overdue.new.self)
          (mark_of was.interruptions) c.args.reference (has_round was.runs) (has_round now.runs) c.in-Some.flight
          c.overdue.invariant.judges found.flight.0 found.flight.1 found.flights cut;
      short = c.overdue.invariant.short;
      room = omega (arith, c.overdue.invariant.room, found.count, found.room);
      interruptions = c.overdue.invariant.interruptions;
      limit = c.overdue.invariant.limit;
    }
