-- For which messages, in the order in which they were sent, a heap of arrivals stands.
use Rattle.std.specs.Prelude.{◌≡◌, ℕ, List, sum_by}
use Rattle.std.specs.BinaryHeap.{heap_items}
use Rattle.sd_gen.specs.declared.arrivals.Arrival.{Arrival}
use Rattle.sd_gen.specs.declared.arrivals.Arrivals.{Arrivals}
use Rattle.sd_gen.specs.arrivals.Left.{AreNumbered}

-- The heap has these messages and no others, in another order: whatever is counted of each comes to the same sum. Their numbers ascend up to
-- the top.
pub record StandsFor (arrivals : Arrivals) (top : ℕ) (waiting : List Arrival) : Type 0 where
  pub numbers : AreNumbered 0 top waiting
  pub same : (f : Arrival → ℕ) → sum_by (λ e. f e.0) (heap_items arrivals.heap) ≡ sum_by f waiting
