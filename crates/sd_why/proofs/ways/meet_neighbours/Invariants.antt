use Rattle.std.proofs.Common.{◌≡◌, ℕ, ◌<◌, List, Option, Some, true, length, slice_get}
use Rattle.sd_num.specs.Lists.{has}
use Rattle.sd_planner.specs.Views.{net_of}
use Rattle.sd_planner.specs.declared.present.Neighbour.{Neighbour}
use Rattle.sd_why.specs.Rings.{IsMet, Spreads}
use Rattle.sd_why.proofs.ways.meet_neighbours.Given as goal

-- the neighbours so far are met, and what was known stays so
abbrev pub invariant-loop-neighbour : goal.invariant-loop-neighbour
invariant-loop-neighbour l =
    record {
      spreads : (old : List (Option ℕ)) (ring : List ℕ) → has ring l.d ≡ true
          → Spreads (net_of l.present) ring l.hops old l.fn.known l.fn.next.items
          → Spreads (net_of l.present) ring l.hops old l.known l.next.items;
      met : (k : ℕ) (neighbour : Neighbour) → k < l.neighbour-index → slice_get l.neighbours k ≡ Some neighbour → IsMet l.known neighbour.device;
      kept : (e : ℕ) → IsMet l.fn.known e → IsMet l.known e;
      size : length l.known ≡ length l.fn.known;
    }
