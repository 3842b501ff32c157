use Rattle.std.proofs.Common.{◌≡◌}
use Rattle.sd_num.specs.Lists.{least}
use Rattle.sd_plan.specs.topo.Topologies.{network}
use Rattle.sd_checker.proofs.check_root.Extremes.{lows}
use Rattle.sd_checker.proofs.check_root.waits.least_low.Given as goal

abbrev pub invariant-loop-d : goal.invariant-loop-d
invariant-loop-d l = l.least ≡ least (lows (network l.topo) l.x l.d)
