use Rattle.std.proofs.Common.{◌≡◌, All, None, length}
use Rattle.std.specs.Vec.{vec_capacity}
use Rattle.sd_plan.specs.topo.Topologies.{network}
use Rattle.sd_drill_text.proofs.endings.no_endings.Given as goal

abbrev pub invariant-loop : goal.invariant-loop
invariant-loop l =
    record {
      size : length l.endings.items ≡ l.counter;
      room : vec_capacity l.endings ≡ length (network l.topo).devices;
      none : All (λ ending. ending.bound ≡ None) l.endings.items;
    }
