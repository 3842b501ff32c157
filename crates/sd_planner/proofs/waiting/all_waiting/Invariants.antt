use Rattle.std.proofs.Common.{take}
use Rattle.sd_planner.specs.Usable.{neighbours_of}
use Rattle.sd_planner.specs.Views.{net_of, left_out}
use Rattle.sd_planner.specs.Waits.{AreWaiting}
use Rattle.sd_planner.proofs.waiting.all_waiting.Given as goal

abbrev pub invariant-loop-placed : goal.invariant-loop-placed
invariant-loop-placed l = AreWaiting (neighbours_of (net_of l.present) (left_out l.present)) l.placement.order (take l.placed-index l.placement.order) l.waiting
