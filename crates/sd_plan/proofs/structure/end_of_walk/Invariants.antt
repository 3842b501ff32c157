use Rattle.std.proofs.Common.{◌≡◌, ◌<◌, length}
use Rattle.sd_plan.specs.topo.Topologies.{network}
use Rattle.sd_plan.specs.Walks.{walk, end_of}
use Rattle.sd_plan.proofs.Walking.{hops_left}
use Rattle.sd_plan.proofs.structure.end_of_walk.Given as goal

-- what is left of the walk ends where the walk does
abbrev pub invariant-loop-left : goal.invariant-loop-left
invariant-loop-left l =
    record {
      same : end_of l.d (walk (network l.topo) l.plan l.d) ≡ end_of l.here (hops_left l.plan l.left l.here);
      range : l.here < length (network l.topo).devices;
    }

abbrev pub decreases-loop-left : goal.decreases-loop-left
decreases-loop-left l = l.left
