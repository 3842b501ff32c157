use Rattle.std.proofs.Common.{◌≡◌, map, take, length}
use Rattle.std.specs.Vec.{vec_capacity}
use Rattle.sd_checker.specs.check_hit.Outages.{plan_of}
use Rattle.sd_checker.specs.check_loop.Graphs.{successors_of}
use Rattle.sd_checker.proofs.check_loop.graph.graph_of.Given as goal

abbrev pub invariant-loop-d : goal.invariant-loop-d
invariant-loop-d l =
    record {
      made : l.graph.items ≡ map (successors_of (plan_of l.outage) l.outage.hit.now) (take l.d-index l.outage.hit.now);
      room : vec_capacity l.graph ≡ length l.outage.hit.now;
    }
