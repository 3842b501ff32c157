use Rattle.std.proofs.Common.{◌≡◌, map}
use Rattle.sd_plan.specs.topo.Network.{device_numbers}
use Rattle.sd_plan.specs.topo.Topologies.{network}
use Rattle.sd_plan.specs.Subtrees.{children_before}
use Rattle.sd_plan.proofs.index.children.all_children.Given as goal

abbrev pub invariant-loop-child : goal.invariant-loop-child
invariant-loop-child l = l.lists.items ≡ map (children_before l.plan l.child) (device_numbers (network l.topo))
