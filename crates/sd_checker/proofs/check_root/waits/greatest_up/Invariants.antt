use Rattle.std.proofs.Common.{◌≡◌, ◌≤◌, ◌+◌, ◌*◌, ◌^◌}
use Rattle.sd_num.specs.Lists.{greatest}
use Rattle.sd_plan.specs.topo.Topologies.{network}
use Rattle.sd_checker.proofs.check_root.Extremes.{ups}
use Rattle.sd_checker.proofs.check_root.waits.greatest_up.Given as goal

abbrev pub invariant-loop-d : goal.invariant-loop-d
invariant-loop-d l = record { is : l.greatest ≡ greatest (ups (network l.topo) l.x l.d); bound : l.greatest ≤ 2 * l.x + 2 ^ 40 }
