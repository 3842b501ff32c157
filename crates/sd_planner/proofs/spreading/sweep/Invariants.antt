use Rattle.std.proofs.Common.{◌≡◌, ◌≤◌, ◌-◌, List, length, drop}
use Rattle.sd_planner.specs.declared.placement.Placed.{Placed}
use Rattle.sd_planner.specs.Usable.{neighbours_of}
use Rattle.sd_planner.specs.Views.{net_of, left_out}
use Rattle.sd_planner.specs.Sweeps.{IsShallow, Sweeps}
use Rattle.sd_planner.proofs.spreading.sweep.Given as goal

abbrev pub invariant-loop-next : goal.invariant-loop-next
invariant-loop-next l =
    record {
      count : l.placement.count ≡ l.fn.placement.count;
      from : l.first ≤ l.next;
      within : l.next ≤ length l.placement.order;
      shallow : IsShallow l.first l.placement.order;
      queue : (final : List Placed)
          → Sweeps l.may_pass (neighbours_of (net_of l.present) (left_out l.present)) (drop l.first l.fn.placement.order) l.fn.placement.order final
          → Sweeps l.may_pass (neighbours_of (net_of l.present) (left_out l.present)) (drop l.next l.placement.order) l.placement.order final;
    }

abbrev pub decreases-loop-next : goal.decreases-loop-next
decreases-loop-next l = l.placement.count - l.next
