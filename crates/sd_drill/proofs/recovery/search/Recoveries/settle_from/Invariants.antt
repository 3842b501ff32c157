use Rattle.std.proofs.Common.{◌≡◌, ◌≢◌, length}
use Rattle.sd_checker.specs.check_hit.Outages.{net_of, plan_of}
use Rattle.sd_drill.specs.recovery.Searches.{IsSearch, NoneNewer, mark_at, search_left}
use Rattle.sd_drill.specs.declared.recovery.marks.Mark.TheVariants as mark
use Rattle.sd_drill.proofs.recovery.search.Recoveries.settle_from.Given as goal

abbrev pub invariant-loop-top : goal.invariant-loop-top
invariant-loop-top l =
    record {
      searched : IsSearch (net_of l.outage) (plan_of l.outage) l.outage.domain l.self.marks.items l.self.stack.items;
      newer : NoneNewer l.fn.self.marks.items l.self.marks.items;
      started : mark_at l.self.marks.items l.start ≢ mark.New;
      size : length l.self.marks.items ≡ length l.fn.self.marks.items;
    }

abbrev pub decreases-loop-top : goal.decreases-loop-top
decreases-loop-top l = search_left l.self.marks.items l.self.stack.items
