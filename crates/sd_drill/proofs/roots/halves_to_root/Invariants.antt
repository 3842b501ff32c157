use Rattle.std.proofs.Common.{◌≡◌, ◌<◌, ◌≤◌, ◌+◌, ◌*◌, ◌^◌, length}
use Rattle.sd_plan.specs.topo.Topologies.{network}
use Rattle.sd_plan.specs.Walks.{walk}
use Rattle.sd_plan.proofs.Walking.{hops_left}
use Rattle.sd_drill.specs.recovery.Walks.{halves}
use Rattle.sd_drill.proofs.roots.halves_to_root.Given as goal

-- what is summed and what is left of the walk are the whole
abbrev pub invariant-loop-left : goal.invariant-loop-left
invariant-loop-left l =
    let net = network l.planned.topo.now in
    record {
      same : halves net l.d (walk net l.planned.plan.now l.d) ≡ l.sum + halves net l.here (hops_left l.planned.plan.now l.left l.here);
      range : l.here < length net.devices;
      most : l.sum + l.left * 10 ^ 12 ≤ net.params.depth * 10 ^ 12;
    }

abbrev pub decreases-loop-left : goal.decreases-loop-left
decreases-loop-left l = l.left
