use Rattle.std.proofs.Common.{◌≡◌, find, not, None}
use Rattle.sd_num.specs.Lists.{below}
use Rattle.sd_plan.specs.topo.Topologies.{network}
use Rattle.sd_plan.specs.Rules.{keeps}
use Rattle.sd_plan.proofs.structure.Rule.first_failing.Given as goal

-- none of those before breaks the rule
abbrev pub invariant-loop-d : goal.invariant-loop-d
invariant-loop-d l = find (λ d. not (keeps l.self (network l.topo) l.plan d)) (below l.d) ≡ None
