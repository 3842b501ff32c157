use Rattle.std.proofs.Common.{◌≡◌, ◌<◌, ℕ, true, not, length, get_or, take}
use Rattle.sd_num.specs.Lists.{has}
use Rattle.sd_plan.proofs.flags.present.Given as goal

abbrev pub invariant-loop-number : goal.invariant-loop-number
invariant-loop-number l =
    record {
      size : length l.flags.items ≡ l.count;
      each : (k : ℕ) → k < l.count → get_or l.flags.items k true ≡ not (has (take l.number-index l.absent) k);
    }
