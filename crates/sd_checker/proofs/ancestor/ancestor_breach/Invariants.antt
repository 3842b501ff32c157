use Rattle.std.proofs.Common.{◌≡◌, find, not, None}
use Rattle.sd_num.specs.Lists.{below}
use Rattle.sd_plan.specs.Structure.{is_no_ancestor}
use Rattle.sd_plan.specs.topo.Topologies.{network}
use Rattle.sd_checker.proofs.ancestor.ancestor_breach.Given as goal

-- none of those before is above its backup parent
abbrev pub invariant-loop-d : goal.invariant-loop-d
invariant-loop-d l = find (λ d. not (is_no_ancestor (network l.planned.topo.now) l.planned.plan.now d)) (below l.d) ≡ None
