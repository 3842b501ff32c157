use Rattle.std.proofs.Common.{◌≡◌, map}
use Rattle.sd_num.specs.Lists.{below}
use Rattle.sd_plan.specs.topo.Topologies.{network}
use Rattle.sd_plan.specs.Tables.{told_of}
use Rattle.sd_plan.proofs.table.duties.all_duties.Given as goal

abbrev pub invariant-loop-d : goal.invariant-loop-d
invariant-loop-d l = l.told.items ≡ map (told_of (network l.topo) l.plan l.epoch) (below l.d)
