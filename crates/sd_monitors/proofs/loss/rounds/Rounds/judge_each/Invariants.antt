use Rattle.std.proofs.Common.{◌≡◌, ◌≤◌}
use Rattle.sd_monitors.specs.loss.flights.Runs.{HasLongRun}
use Rattle.sd_monitors.specs.loss.flights.RunsView.{has_round}
use Rattle.sd_monitors.specs.loss.flights.WaitingView.{waiting_at, count_of}
use Rattle.sd_monitors.specs.loss.flights.InterruptionsView.{mark_of}
use Rattle.sd_monitors.specs.loss.rounds.Standing.{room_of}
use Rattle.sd_monitors.proofs.loss.rounds.Judging.{JudgesSome}
use Rattle.sd_monitors.proofs.loss.rounds.Rounds.judge_each.Given as goal

abbrev pub invariant-overdue : goal.invariant-overdue
invariant-overdue l =
    let was = l.fn.self in
    record {
      judges : JudgesSome (waiting_at was.waiting) (waiting_at l.self.waiting) (mark_of was.interruptions) l.reference (has_round was.runs)
          (has_round l.self.runs);
      short : (HasLongRun was.limit (has_round was.runs) → ⊥) → HasLongRun was.limit (has_round l.self.runs) → ⊥;
      room : room_of was ≤ room_of l.self;
      interruptions : l.self.interruptions ≡ was.interruptions;
      limit : l.self.limit ≡ was.limit;
    }

abbrev pub decreases-overdue : goal.decreases-overdue
decreases-overdue l = count_of l.self.waiting
