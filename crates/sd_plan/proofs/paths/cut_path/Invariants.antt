use Rattle.std.proofs.Common.{◌≡◌, ◌<◌, ◌++◌, length}
use Rattle.sd_plan.specs.topo.Topologies.{network}
use Rattle.sd_plan.specs.Cuts.{ends_at}
use Rattle.sd_plan.specs.Walks.{things_of, hops}
use Rattle.sd_plan.proofs.paths.cut_path.Given as goal

-- what is added, and what is added from here on, are the things of the whole path
abbrev pub invariant-loop-left : goal.invariant-loop-left
invariant-loop-left l =
    record {
      whole : things_of (hops (ends_at l.cut l.plan) l.plan (network l.topo).params.depth l.d) ≡ l.things
          ++ things_of (hops (ends_at l.cut l.plan) l.plan l.left l.here);
      range : l.here < length (network l.topo).devices;
    }

abbrev pub decreases-loop-left : goal.decreases-loop-left
decreases-loop-left l = l.left
