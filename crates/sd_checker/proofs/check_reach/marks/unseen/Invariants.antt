use Rattle.std.proofs.Common.{◌≡◌, ◌<◌, ℕ, length, Some, slice_get}
use Rattle.sd_checker.specs.declared.check_reach.marks.Mark.TheVariants as mark
use Rattle.sd_checker.proofs.check_reach.marks.unseen.Given as goal

abbrev pub invariant-loop : goal.invariant-loop
invariant-loop l =
    record {
      size : length l.marks.items ≡ l.counter;
      each : (i : ℕ) → i < l.counter → slice_get l.marks.items i ≡ Some mark.Unseen;
    }
