use Rattle.std.proofs.Common.{◌≢◌, ℕ, ◌<◌, IfSome}
use Rattle.sd_replay.specs.watch.Watch.{parent_in, IsOnLoop}
use Rattle.sd_replay.specs.watch.Settled.{mark_at, AreAtMost, AreSettled}
use Rattle.sd_replay.proofs.watch.marks.first_by_marks.Given as goal

abbrev pub invariant-loop-start : goal.invariant-loop-start
invariant-loop-start l =
    record {
      older : AreAtMost l.start l.marks;
      on_loop : IfSome l.first (λ d. IsOnLoop (parent_in l.parents) d);
      settled : AreSettled (parent_in l.parents) l.first l.marks;
      passed : (d : ℕ) → d < l.start → mark_at l.marks d ≢ 0;
    }
