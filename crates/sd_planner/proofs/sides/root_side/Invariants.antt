use Rattle.std.proofs.Common.{◌≡◌, map}
use Rattle.sd_num.specs.Lists.{below}
use Rattle.sd_planner.specs.Views.{net_of, left_out}
use Rattle.sd_planner.specs.Placing.{through_root}
use Rattle.sd_planner.proofs.sides.root_side.Given as goal

abbrev pub invariant-loop-d : goal.invariant-loop-d
invariant-loop-d l = l.flags.items ≡ map (through_root (net_of l.present) l.root (left_out l.present)) (below l.d)
