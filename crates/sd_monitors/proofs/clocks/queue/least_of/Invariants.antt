use Rattle.std.proofs.Common.{◌≡◌, ℕ, ◌<◌, ◌≤◌, ◌^◌, true, false, map, nat_le}
use Rattle.std.specs.List.{list_all}
use Rattle.sd_monitors.specs.clocks.Queues.{mark_at, number_at}
use Rattle.sd_monitors.proofs.clocks.queue.least_of.Given as goal

abbrev pub invariant-loop-mark : goal.invariant-loop-mark
invariant-loop-mark l =
    record {
      low : (k : ℕ) → k < l.mark-index → (mark_at l.marks k).queued ≡ false → l.least ≤ number_at l.marks k;
      reached : (bound : ℕ) → bound < 2 ^ 64 → list_all (nat_le bound) (map (λ m. m.number) l.marks) ≡ true → bound ≤ l.least;
    }
