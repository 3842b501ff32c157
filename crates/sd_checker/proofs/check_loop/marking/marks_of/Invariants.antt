use Rattle.std.proofs.Common.{◌≡◌, ◌≢◌, ℕ, ◌<◌, []}
use Rattle.sd_checker.specs.check_loop.Markings.{IsSearch, mark_at}
use Rattle.sd_checker.specs.declared.check_loop.marking.Mark.TheVariants as mark
use Rattle.sd_checker.proofs.check_loop.marking.marks_of.Given as goal

abbrev pub invariant-loop-start : goal.invariant-loop-start
invariant-loop-start l =
    record {
      searched : IsSearch l.graph l.marks.items l.stack.items;
      alone : l.stack.items ≡ [];
      old : (k : ℕ) → k < l.start → mark_at l.marks.items k ≢ mark.New;
    }
