use Rattle.std.proofs.Common.{◌≡◌, false, take}
use Rattle.std.specs.List.{list_any}
use Rattle.sd_plan.specs.IndexedPlan.{has_link}
use Rattle.sd_plan.specs.Walks.{path}
use Rattle.sd_plan.specs.topo.Topologies.{network}
use Rattle.sd_checker.proofs.check_root.fallback.hits_link.Given as goal

abbrev pub invariant-loop-l : goal.invariant-loop-l
invariant-loop-l l = list_any (has_link (path (network l.planned.topo.now) l.planned.plan.now l.planned.plan.now.backup_root)) (take l.l-index l.l-items)
    ≡ false
