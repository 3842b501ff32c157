use Rattle.std.proofs.Common.{◌≡◌, ℕ, ◌<◌, get_or, length}
use Rattle.std.specs.Vec.{vec_capacity}
use Rattle.sd_plan.specs.topo.Topologies.{network}
use Rattle.sd_drill.specs.Calm.{IsCalm}
use Rattle.sd_drill.proofs.calm.calm_numbers.Given as goal

abbrev pub invariant-loop-d : goal.invariant-loop-d
invariant-loop-d l =
    let net = network l.planned.topo.now in
    record {
      listed : (k : ℕ) → k < l.d → IsCalm net l.planned.plan.now l.fn.budget k (get_or l.numbers.items k 0);
      size : length l.numbers.items ≡ l.d;
      room : vec_capacity l.numbers ≡ length net.devices;
    }
