use Rattle.std.proofs.Common.{◌≡◌, ℕ, ◌<◌, true, length}
use Rattle.std.specs.VecDeque.{deque_len}
use Rattle.sd_monitors.specs.clocks.Queues.{ascend, are_at_most, is_queued_at}
use Rattle.sd_monitors.proofs.clocks.queue.has_live_below.Given as goal

abbrev pub invariant-front : goal.invariant-front
invariant-front l =
    record {
      order : ascend l.entries.items ≡ true;
      kept : (k : ℕ) → k < length l.marks → is_queued_at l.marks k l.fn.entries.items ≡ true → is_queued_at l.marks k l.entries.items ≡ true;
      most : (n : ℕ) → are_at_most n l.fn.entries.items ≡ true → are_at_most n l.entries.items ≡ true;
    }

abbrev pub decreases-front : goal.decreases-front
decreases-front l = deque_len l.entries
