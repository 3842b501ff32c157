use Rattle.std.proofs.Common.{◌≡◌, ℕ, ◌≤◌, filter}
use Rattle.std.specs.VecDeque.{deque_len, deque_capacity}
use Rattle.sd_device.specs.msg.Spent.{is_left, AreKept}
use Rattle.sd_device.proofs.msg.flights.drop_first.Given as goal

abbrev pub invariant-loop-first : goal.invariant-loop-first
invariant-loop-first l =
    record {
      left : filter (is_left l.spent) l.flights.items ≡ filter (is_left l.spent) l.fn.flights.items;
      kept : (last : ℕ) → AreKept last l.spent l.fn.flights.items → AreKept last l.spent l.flights.items;
      bound : deque_len l.flights ≤ deque_len l.fn.flights;
      capacity : deque_capacity l.flights ≡ deque_capacity l.fn.flights;
    }

abbrev pub decreases-loop-first : goal.decreases-loop-first
decreases-loop-first l = deque_len l.flights
