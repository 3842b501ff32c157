use Rattle.std.proofs.Common.{take}
use Rattle.std.specs.Prelude.{All}
use Rattle.sd_plan.specs.topo.Topologies.{network}
use Rattle.sd_search.specs.Finds.{FailsFrom}
use Rattle.sd_search.proofs.trials.try_candidates.Given as goal

-- the greedy plan from each root so far is refused
abbrev pub invariant-loop-root : goal.invariant-loop-root
invariant-loop-root l = All (FailsFrom (network l.topo) l.absent) (take l.root-index (network l.topo).roots)
