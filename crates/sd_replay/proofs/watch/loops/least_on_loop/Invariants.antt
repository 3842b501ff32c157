use Rattle.std.proofs.Common.{◌≡◌, ℕ, ◌≤◌, Some}
use Rattle.sd_num.specs.Lists.{follow}
use Rattle.sd_replay.specs.watch.Watch.{parent_in, IsOnLoop}
use Rattle.sd_replay.proofs.watch.loops.least_on_loop.Given as goal

abbrev pub invariant-round : goal.invariant-round
invariant-round l =
    record {
      here : follow (parent_in l.parents) l.counter l.d ≡ Some l.here;
      on_loop : IsOnLoop (parent_in l.parents) l.least;
      least : (k e : ℕ) → k ≤ l.counter → follow (parent_in l.parents) k l.d ≡ Some e → l.least ≤ e;
    }
