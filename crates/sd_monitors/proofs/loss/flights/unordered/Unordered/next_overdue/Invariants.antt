use Rattle.std.proofs.Common.{◌≡◌, ◌≤◌, ℕ}
use Rattle.std.specs.BinaryHeap.{heap_len}
use Rattle.sd_monitors.specs.loss.flights.UnorderedView.{unordered_at, unordered_count, unordered_room}
use Rattle.sd_monitors.proofs.loss.flights.unordered.Unordered.next_overdue.Given as goal

abbrev pub invariant-entries : goal.invariant-entries
invariant-entries l =
    record {
      flights : (n : ℕ) → unordered_at l.self n ≡ unordered_at l.fn.self n;
      count : unordered_count l.self ≡ unordered_count l.fn.self;
      room : unordered_room l.fn.self ≤ unordered_room l.self;
    }

abbrev pub decreases-entries : goal.decreases-entries
decreases-entries l = heap_len l.self.dues
