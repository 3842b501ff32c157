use Rattle.std.proofs.Common.{◌≡◌, ◌≢◌, ℕ, suc, ◌<◌, Some}
use Rattle.sd_num.specs.Lists.{follow}
use Rattle.sd_replay.specs.watch.Watch.{parent_in}
use Rattle.sd_replay.proofs.watch.loops.loop_at.Given as goal

abbrev pub invariant-steps : goal.invariant-steps
invariant-steps l =
    record {
      here : follow (parent_in l.parents) l.counter l.d ≡ Some l.here;
      not_back : (k : ℕ) → k < l.counter → follow (parent_in l.parents) (suc k) l.d ≢ Some l.d;
    }
