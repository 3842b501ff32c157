use Rattle.std.proofs.Common.{take}
use Rattle.sd_planner.specs.Nearing.{IsNearest}
use Rattle.sd_planner.proofs.nearest.nearest_of.Given as goal

abbrev pub invariant-loop-neighbour : goal.invariant-loop-neighbour
invariant-loop-neighbour l = IsNearest l.placement.order (take l.neighbour-index l.neighbours) l.best
