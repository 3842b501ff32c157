use Rattle.sd_plan.specs.topo.Topologies.{network}
use Rattle.sd_planner.proofs.Least.{IsLeastOf}
use Rattle.sd_planner.proofs.waits.least_wait.Given as goal

abbrev pub invariant-loop-d : goal.invariant-loop-d
invariant-loop-d l = IsLeastOf (network l.topo) l.long l.d l.least
