use Rattle.std.proofs.Common.{◌≡◌, ℕ, ◌<◌, IfSome, Some, slice_get}
use Rattle.sd_replay.specs.watch.Watch.{parent_in, IsOnLoop}
use Rattle.sd_replay.specs.watch.Settled.{NoneBefore}
use Rattle.sd_replay.proofs.watch.loops.first_by_trials.Given as goal

abbrev pub invariant-loop-entry : goal.invariant-loop-entry
invariant-loop-entry l =
    record {
      on_loop : IfSome l.first (λ d. IsOnLoop (parent_in l.parents) d);
      tried : (k d : ℕ) → k < l.entry-index → slice_get l.parents k ≡ Some (Some d) → IsOnLoop (parent_in l.parents) d → NoneBefore l.first d;
    }
