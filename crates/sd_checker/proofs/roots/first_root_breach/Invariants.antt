use Rattle.std.proofs.Common.{◌≡◌, ℕ, ◌<◌, Some}
use Rattle.std.specs.Prelude.{slice_get}
use Rattle.sd_plan.specs.domain.Domains.{domains}
use Rattle.sd_plan.specs.declared.domain.DomainId.{DomainId}
use Rattle.sd_plan.specs.topo.Topologies.{network}
use Rattle.sd_checker.specs.Conditions.{RootHolds}
use Rattle.sd_checker.proofs.roots.first_root_breach.Given as goal

-- each domain before meets the condition
abbrev pub invariant-loop-place : goal.invariant-loop-place
invariant-loop-place l = (j : ℕ) (g : DomainId) → j < l.place → slice_get (domains (network l.planned.topo.now)) j ≡ Some g
    → RootHolds (network l.planned.topo.now) l.planned.plan.now g
