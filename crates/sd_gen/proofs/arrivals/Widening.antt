-- Numbers that ascend up to one top ascend up to each greater one.
use Rattle.std.specs.Prelude.{◌≡◌, ℕ, ◌≤◌, ◌<◌, Bool, true, false, cond, nat_le, List, [], ◌∷◌, Some, None}
use Rattle.std.proofs.Common.{arith, subst}
use Rattle.std.proofs.lemmas.Option.{same_Some}
use Rattle.sd_gen.specs.declared.arrivals.Arrival.{Arrival}
use Rattle.sd_gen.specs.declared.arrivals.Arrivals.{Arrivals}
use Rattle.sd_gen.specs.arrivals.Waiting.{comes_before, soonest_of, next_by}
use Rattle.sd_gen.specs.arrivals.Left.{AreNumbered}
use Rattle.sd_gen.specs.arrivals.Standing.{StandsFor}

numbered_wider : (floor top wider : ℕ) (ws : List Arrival) → top ≤ wider → AreNumbered floor top ws → AreNumbered floor wider ws
numbered_wider floor top wider [] more is = omega (arith, more, is)
numbered_wider floor top wider (w ∷ ws) more is = (is.0, numbered_wider w.number top wider ws more is.1)

pub stands_wider : (arrivals : Arrivals) (top wider : ℕ) (waiting : List Arrival) → top ≤ wider → StandsFor arrivals top waiting
    → StandsFor arrivals wider waiting
stands_wider arrivals top wider waiting more stands = record { numbers = numbered_wider 0 top wider waiting more stands.numbers; same = stands.same }

-- all numbers are within the top
first_within : (floor top : ℕ) (w : Arrival) (ws : List Arrival) → AreNumbered floor top (w ∷ ws) → w.number ≤ top
first_within floor top w [] is = is.1
first_within floor top w (v ∷ vs) is = let rest : v.number ≤ top = first_within w.number top v vs is.1 in let above : w.number < v.number = is.1.0 in
    omega (arith, rest, above)

soonest_within : (top : ℕ) (w : Arrival) (ws : List Arrival) → w.number ≤ top → (floor : ℕ) → AreNumbered floor top ws → (soonest_of w ws).number ≤ top
soonest_within top w [] within floor is = within
soonest_within top w (v ∷ vs) within floor is =
    by (comes_before v w) (soonest_within top v vs (first_within floor top v vs is) v.number is.1) (soonest_within top w vs within v.number is.1)
  where
    by : (b : Bool) → (soonest_of v vs).number ≤ top → (soonest_of w vs).number ≤ top → (soonest_of (cond b v w) vs).number ≤ top
    by true one other = one
    by false one other = other

-- so is that of the next
pub next_within : (moment top : ℕ) (waiting : List Arrival) (a : Arrival) → AreNumbered 0 top waiting → next_by moment waiting ≡ Some a → a.number ≤ top
next_within moment top [] a is next = cc
next_within moment top (w ∷ ws) a is next = by (nat_le (soonest_of w ws).moment moment) next
  where
    within : (soonest_of w ws).number ≤ top
    within = soonest_within top w ws (first_within 0 top w ws is) w.number is.1

    by : (b : Bool) → cond b (Some (soonest_of w ws)) None ≡ Some a → a.number ≤ top
    by true same = subst (λ (v : Arrival). v.number ≤ top) (same_Some (soonest_of w ws) a same) within
    by false same = cc
