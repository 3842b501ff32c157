use Rattle.std.proofs.Common.{◌≡◌, ℕ, ◌≤◌}
use Rattle.std.specs.VecDeque.{deque_len, deque_capacity}
use Rattle.sd_monitors.specs.loss.flights.OrderlyKept.{waits_at, AreInOrder}
use Rattle.sd_monitors.proofs.loss.flights.orderly.drop_received.Given as goal

abbrev pub invariant-first : goal.invariant-first
invariant-first l =
    record {
      flights : (n : ℕ) → waits_at l.entries.items n ≡ waits_at l.fn.entries.items n;
      order : AreInOrder l.fn.entries.items → AreInOrder l.entries.items;
      bound : deque_len l.entries ≤ deque_len l.fn.entries;
      capacity : deque_capacity l.entries ≡ deque_capacity l.fn.entries;
    }

abbrev pub decreases-first : goal.decreases-first
decreases-first l = deque_len l.entries
