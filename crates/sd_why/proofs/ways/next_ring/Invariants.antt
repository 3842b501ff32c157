use Rattle.std.proofs.Common.{◌≡◌, ℕ, ◌<◌, Some, length, slice_get}
use Rattle.sd_planner.specs.Views.{net_of}
use Rattle.sd_why.specs.Rings.{IsMet, Spreads}
use Rattle.sd_why.specs.Ways.{NextTo}
use Rattle.sd_why.proofs.ways.next_ring.Given as goal

-- what is next to the devices so far is met
abbrev pub invariant-loop-d : goal.invariant-loop-d
invariant-loop-d l =
    record {
      spreads : Spreads (net_of l.present) l.ring l.hops l.fn.known l.known l.next.items;
      met : (k d e : ℕ) → k < l.d-index → slice_get l.ring k ≡ Some d → e < length (net_of l.present).devices → NextTo (net_of l.present) d e
          → IsMet l.known e;
      size : length l.known ≡ length l.fn.known;
    }
