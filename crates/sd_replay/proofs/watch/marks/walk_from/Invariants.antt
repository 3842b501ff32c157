use Rattle.std.proofs.Common.{◌≡◌, true}
use Rattle.sd_replay.specs.watch.Watch.{parent_in}
use Rattle.sd_replay.specs.watch.Settled.{IsWalk, has_mark, new_count}
use Rattle.sd_replay.proofs.watch.marks.walk_from.Given as goal

abbrev pub invariant-loop-marks : goal.invariant-loop-marks
invariant-loop-marks l =
    record {
      is_walk : IsWalk (parent_in l.parents) l.fn.marks l.marks l.walk l.here;
      begins : has_mark l.marks l.start 0 ≡ true → l.here ≡ l.start;
    }

abbrev pub decreases-loop-marks : goal.decreases-loop-marks
decreases-loop-marks l = new_count l.marks
