-- Who is left waiting, and in which order.
use Rattle.std.specs.Prelude.{ℕ, ◌<◌, ◌≤◌, List, ◌∷◌, Option, Some, None, []}
use Rattle.sd_gen.specs.declared.arrivals.Arrival.{Arrival}
use Rattle.sd_gen.specs.arrivals.Waiting.{without}

-- those that wait on where this one, if any, is taken
abbrev pub left_by : Option Arrival → List Arrival → List Arrival
left_by None waiting = waiting
left_by (Some w) waiting = without w.number waiting

-- the numbers ascend from above the floor up to the top
abbrev pub AreNumbered : ℕ → ℕ → List Arrival → Type 0
AreNumbered floor top [] = floor ≤ top
AreNumbered floor top (w ∷ ws) = (floor < w.number) × AreNumbered w.number top ws
