use Rattle.std.proofs.Common.{◌≡◌, take, true}
use Rattle.std.specs.List.{list_all}
use Rattle.sd_plan.specs.topo.Topologies.{network}
use Rattle.sd_plan.specs.domain.Domains.{holds_device}
use Rattle.sd_plan.specs.declared.domain.DomainId.TheVariants as domain
use Rattle.sd_why.proofs.shared.has_all.Given as goal

-- the domain has each candidate so far
abbrev pub invariant-loop-root : goal.invariant-loop-root
invariant-loop-root l = list_all (holds_device (network l.topo) (domain.Listed l.k)) (take l.root-index (network l.topo).roots) ≡ true
