use Rattle.std.proofs.Common.{◌≢◌}
use Rattle.sd_checker.specs.check_loop.Markings.{IsSearch, NoneNewer, mark_at, search_left}
use Rattle.sd_checker.specs.declared.check_loop.marking.Mark.TheVariants as mark
use Rattle.sd_checker.proofs.check_loop.marking.mark_from.Given as goal

abbrev pub invariant-loop-top : goal.invariant-loop-top
invariant-loop-top l =
    record {
      searched : IsSearch l.graph l.marks.items l.stack.items;
      newer : NoneNewer l.fn.marks.items l.marks.items;
      started : mark_at l.marks.items l.start ≢ mark.New;
    }

abbrev pub decreases-loop-top : goal.decreases-loop-top
decreases-loop-top l = search_left l.marks.items l.stack.items
