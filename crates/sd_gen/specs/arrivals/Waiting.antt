-- Messages that wait, in the order in which they were sent, and which of them is received first.
use Rattle.std.specs.Prelude.{ℕ, Bool, ◌&&◌, not, List, ◌∷◌, filter, nat_eq, nat_le, nat_lt, Option, Some, None, if◌then◌else◌, [], ◌||◌}
use Rattle.sd_gen.specs.declared.arrivals.Arrival.{Arrival}

-- a is received before b: the least by moment, then by number, comes first
abbrev pub comes_before : Arrival → Arrival → Bool
comes_before a b = nat_lt a.moment b.moment || (nat_eq a.moment b.moment && nat_lt a.number b.number)

-- the one of two that is received first
abbrev pub sooner : Arrival → Arrival → Arrival
sooner a b = if comes_before b a then b else a

-- the one of these that is received first
abbrev pub soonest_of : Arrival → List Arrival → Arrival
soonest_of w [] = w
soonest_of w (v ∷ vs) = soonest_of (sooner w v) vs

-- the one that is received first
abbrev pub soonest : List Arrival → Option Arrival
soonest [] = None
soonest (w ∷ ws) = Some (soonest_of w ws)

-- the message, if it is received by the moment
abbrev pub if_by : ℕ → Option Arrival → Option Arrival
if_by moment None = None
if_by moment (Some w) = if nat_le w.moment moment then Some w else None

-- the one that is received next, if its moment is at most the given one
abbrev pub next_by : ℕ → List Arrival → Option Arrival
next_by moment waiting = if_by moment (soonest waiting)

-- those that wait on where the message with a number waits no longer
abbrev pub without : ℕ → List Arrival → List Arrival
without n waiting = filter (λ w. not (nat_eq w.number n)) waiting
