use Rattle.std.proofs.Common.{◌≡◌, false, take}
use Rattle.std.specs.List.{list_any}
use Rattle.sd_plan.specs.IndexedPlan.{has_device}
use Rattle.sd_plan.specs.Walks.{path}
use Rattle.sd_plan.specs.topo.Topologies.{network}
use Rattle.sd_checker.proofs.check_root.fallback.hits_device.Given as goal

abbrev pub invariant-loop-d : goal.invariant-loop-d
invariant-loop-d l = list_any (has_device (path (network l.planned.topo.now) l.planned.plan.now l.planned.plan.now.backup_root)) (take l.d-index l.d-items)
    ≡ false
