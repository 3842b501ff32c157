use Rattle.std.proofs.Common.{◌≡◌, ◌-◌, length}
use Rattle.sd_planner.specs.Usable.{neighbours_of}
use Rattle.sd_planner.specs.Views.{net_of, left_out}
use Rattle.sd_planner.specs.Placing.{with_left}
use Rattle.sd_planner.specs.Trees.{HasGrown}
use Rattle.sd_planner.specs.Waits.{AreWaiting}
use Rattle.sd_planner.proofs.left.place_left.Given as goal

abbrev pub invariant-loop : goal.invariant-loop
invariant-loop l =
    record {
      count : l.placement.count ≡ length (net_of l.present).devices;
      grown : HasGrown (net_of l.present) (left_out l.present) l.placement.order;
      waiting : AreWaiting (neighbours_of (net_of l.present) (left_out l.present)) l.placement.order l.placement.order l.waiting;
      left : with_left (net_of l.present) (left_out l.present) (length (net_of l.present).devices - l.counter) l.placement.order
          ≡ with_left (net_of l.present) (left_out l.present) (length (net_of l.present).devices) l.fn.placement.order;
    }
