use Rattle.std.proofs.Common.{arith}
use Rattle.sd_replay.specs.wait.Waiting.{with_pending}
use Rattle.sd_replay.proofs.wait.Keeping.{same_length}
use Rattle.sd_replay.proofs.wait.waits.WaitsObserver.ready.Goals as goal

pub invariant_of-self : goal.invariant_of-self
invariant_of-self c =
    record {
      below = c.settle.ensures.below c.self.inside.begun c.self.invariant.below;
      pending = c.settle.ensures.last;
      counted = omega (
        arith,
        same_length (with_pending c.settle.new.pending c.settle.new.waiting.keys)
            (with_pending c.self.inside.pending c.self.inside.waiting.keys) c.settle.ensures.same,
        c.self.invariant.counted,
      );
      disorders = c.self.invariant.disorders;
    }
