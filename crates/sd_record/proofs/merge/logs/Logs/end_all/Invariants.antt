use Rattle.std.proofs.Common.{◌≡◌, ◌≤◌, ◌<◌, ℕ, get_or, length}
use Rattle.sd_record.specs.merge.Queues.{ended, new_queue}
use Rattle.sd_record.proofs.merge.logs.Logs.end_all.Given as goal

-- those before the place have ended
abbrev pub invariant-loop-place : goal.invariant-loop-place
invariant-loop-place l =
    record {
      same : length l.self ≡ length l.fn.self;
      done : (k : ℕ) → k < l.place → get_or l.self k new_queue ≡ ended (get_or l.fn.self k new_queue);
      left : (k : ℕ) → l.place ≤ k → get_or l.self k new_queue ≡ get_or l.fn.self k new_queue;
    }
