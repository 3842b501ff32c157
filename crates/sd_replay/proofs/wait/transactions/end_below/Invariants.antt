use Rattle.std.proofs.Common.{◌≡◌, ◌+◌, ◌≤◌, ◌++◌, filter, length}
use Rattle.std.specs.Prelude.{not, vec_capacity, vec_len}
use Rattle.sd_replay.specs.wait.Waiting.{ends_below}
use Rattle.sd_replay.proofs.wait.transactions.end_below.Given as goal

-- what has ended, and what still ends, is what ends of all
abbrev pub invariant-loop-t : goal.invariant-loop-t
invariant-loop-t l =
    record {
      those : l.ended.items ++ filter (ends_below l.device l.low) l.waiting.keys ≡ filter (ends_below l.device l.low) l.fn.waiting.keys;
      others : filter (λ t. not (ends_below l.device l.low t)) l.waiting.keys ≡ filter (λ t. not (ends_below l.device l.low t)) l.fn.waiting.keys;
      room : vec_len l.ended + length l.waiting.keys ≤ vec_capacity l.ended;
      capacity : vec_capacity l.fn.ended ≤ vec_capacity l.ended;
    }

abbrev pub decreases-loop-t : goal.decreases-loop-t
decreases-loop-t l = length l.waiting.keys
