use Rattle.std.proofs.Common.{◌≡◌, ◌+◌, ◌≤◌, ℕ, max, drop}
use Rattle.sd_plan.specs.declared.topo.Thing.{Thing}
use Rattle.sd_monitors.specs.loss.flights.InterruptionsView.{mark_of, last_number, HasSamePlaces}
use Rattle.sd_monitors.specs.loss.rounds.Loss.{with_sent}
use Rattle.sd_monitors.specs.loss.flights.WaitingView.{waiting_at}
use Rattle.sd_monitors.specs.loss.rounds.Standing.{room_of}
use Rattle.sd_monitors.proofs.loss.rounds.Sending.{greatest_of}
use Rattle.sd_monitors.proofs.loss.rounds.Rounds.send.Given as goal

abbrev pub invariant-loop-flight : goal.invariant-loop-flight
invariant-loop-flight l =
    let was = l.fn.self in
    record {
      waiting : (n : ℕ) → with_sent (drop l.flight-index l.sent) (waiting_at l.self.waiting) n ≡ with_sent l.sent (waiting_at was.waiting) n;
      last : max (last_number l.self.interruptions) (greatest_of (drop l.flight-index l.sent)) ≡ max (last_number was.interruptions) (greatest_of l.sent);
      marks : (x : Thing) → mark_of l.self.interruptions x ≡ mark_of was.interruptions x;
      places : HasSamePlaces was.interruptions l.self.interruptions;
      room : room_of was ≤ room_of l.self + l.flight-index;
      runs : l.self.runs ≡ was.runs;
      limit : l.self.limit ≡ was.limit;
      holds : l.self.holds ≡ was.holds;
    }
