use Rattle.std.proofs.Common.{◌≡◌, ◌++◌, drop}
use Rattle.sd_planner.specs.Sweeps.{children}
use Rattle.sd_planner.proofs.spreading.place_below.Given as goal

abbrev pub invariant-loop-neighbour : goal.invariant-loop-neighbour
invariant-loop-neighbour l =
    record {
      count : l.placement.count ≡ l.fn.placement.count;
      order : l.placement.order ++ children l.may_pass l.parent.device l.parent.depth l.placement.order (drop l.neighbour-index l.neighbours)
          ≡ l.fn.placement.order ++ children l.may_pass l.parent.device l.parent.depth l.fn.placement.order l.neighbours;
    }
