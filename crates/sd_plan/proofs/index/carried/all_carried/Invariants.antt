use Rattle.std.proofs.Common.{◌≡◌, map, find}
use Rattle.sd_num.specs.Lists.{below}
use Rattle.sd_plan.specs.topo.Network.{link_numbers}
use Rattle.sd_plan.specs.topo.Topologies.{network}
use Rattle.sd_plan.specs.IndexedPlan.{goes_over}
use Rattle.sd_plan.proofs.index.carried.all_carried.Given as goal

abbrev pub invariant-loop-d : goal.invariant-loop-d
invariant-loop-d l = l.carried.items ≡ map (λ link. find (goes_over l.plan link) (below l.d)) (link_numbers (network l.topo))
