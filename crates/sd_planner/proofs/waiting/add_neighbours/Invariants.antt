use Rattle.std.proofs.Common.{◌≡◌, ℕ, ◌||◌, ◌&&◌, not, take}
use Rattle.sd_num.specs.Lists.{has}
use Rattle.sd_planner.specs.Spreading.{is_placed}
use Rattle.sd_planner.specs.Waits.{lead_to}
use Rattle.sd_planner.proofs.waiting.add_neighbours.Given as goal

abbrev pub invariant-loop-neighbour : goal.invariant-loop-neighbour
invariant-loop-neighbour l = (x : ℕ)
    → has l.waiting x ≡ (has l.fn.waiting x || (not (is_placed l.placement.order x) && lead_to (take l.neighbour-index l.neighbours) x))
