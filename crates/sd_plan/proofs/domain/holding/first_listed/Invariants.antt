use Rattle.std.proofs.Common.{◌≡◌, find, None}
use Rattle.sd_num.specs.Lists.{below}
use Rattle.sd_plan.specs.topo.Topologies.{network}
use Rattle.sd_plan.specs.domain.Within.{has_all}
use Rattle.sd_plan.specs.declared.domain.DomainId.TheVariants as domain
use Rattle.sd_plan.proofs.domain.holding.first_listed.Given as goal

abbrev pub invariant-loop-k : goal.invariant-loop-k
invariant-loop-k l = find (λ k. has_all (network l.topo) l.failed (domain.Listed k)) (below l.k) ≡ None
