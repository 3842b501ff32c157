use Rattle.std.proofs.Common.{◌≡◌, ◌&&◌, not, None, find, take}
use Rattle.sd_plan.specs.Plans.{is_root}
use Rattle.sd_plan.specs.Walks.{on_walk}
use Rattle.sd_plan.specs.topo.Topologies.{network}
use Rattle.sd_checker.proofs.check_root.fallback.first_device.Given as goal

abbrev pub invariant-loop-d : goal.invariant-loop-d
invariant-loop-d l =
    find (λ d. not (is_root l.planned.plan.now d) && on_walk (network l.planned.topo.now) l.planned.plan.now l.from d) (take l.d-index l.d-items) ≡ None
