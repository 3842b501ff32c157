use Rattle.std.proofs.Common.{◌≡◌, ◌||◌, nat_eq, None, find, take}
use Rattle.sd_plan.specs.IndexedPlan.{has_link}
use Rattle.sd_plan.specs.Walks.{path}
use Rattle.sd_plan.specs.topo.Topologies.{network}
use Rattle.sd_checker.proofs.check_root.fallback.first_link.Given as goal

abbrev pub invariant-loop-l : goal.invariant-loop-l
invariant-loop-l l =
    find (λ x. nat_eq x l.hop.link || has_link (path (network l.planned.topo.now) l.planned.plan.now l.hop.parent) x) (take l.l-index l.l-items) ≡ None
