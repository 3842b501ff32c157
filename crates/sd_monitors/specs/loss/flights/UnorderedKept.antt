-- What is kept of flights that wait in no order.
use Rattle.std.specs.Prelude.{◌≡◌, ℕ, Bool, ◌&&◌, true, false, List, Option, Some, nat_eq}
use Rattle.std.specs.List.{list_any}
use Rattle.std.specs.HashMap.{HashMap, get}
use Rattle.std.specs.declared.hash.FoldHasher.{FoldHasher}
use Rattle.std.specs.declared.hash.BuildHasherDefault.{BuildHasherDefault}
use Rattle.std.specs.Ordering.{nat_cmp, ordering_then}
use Rattle.std.specs.declared.cmp.Ordering.{Ordering}
use Rattle.std.specs.declared.cmp.Reverse.{Reverse}
use Rattle.std.proofs.Props.{props}
use Rattle.sd_num.specs.Lists.{map_or}
use Rattle.sd_monitors.specs.declared.loss.flights.WaitingFlight.{WaitingFlight}

-- flights by number
abbrev pub Flights : Type 0
Flights = HashMap ℕ WaitingFlight (BuildHasherDefault FoldHasher)

-- the flight of a number
abbrev pub flight_in : Flights → ℕ → Option WaitingFlight
flight_in flights n = get nat_eq flights n

-- a due with a number, the least due first
abbrev pub Entry : Type 0
Entry = Reverse (ℕ × ℕ)

-- the entry of a flight with this due and this number
abbrev pub entry : ℕ → ℕ → Entry
entry due number = record { 0 = (due, number) }

-- the order of the entries, in which the greatest has the least due
abbrev pub by_due : Entry → Entry → Ordering
by_due x y = ordering_then (nat_cmp y.0.0 x.0.0) (nat_cmp y.0.1 x.0.1)

-- the entry is that of the flight
abbrev pub is_entry_of : WaitingFlight → Entry → Bool
is_entry_of f e = nat_eq e.0.0 f.due && nat_eq e.0.1 f.number

-- the entry is that of a flight that waits
abbrev pub is_waiting : (ℕ → Option WaitingFlight) → Entry → Bool
is_waiting flights e = map_or (flights e.0.1) false (λ f. nat_eq f.due e.0.0)

-- each flight stands under its own number, and its due is among the entries
pub record AreListed (flights : ℕ → Option WaitingFlight) (entries : List Entry) : Type 0 where
  pub numbered : (n : ℕ) (f : WaitingFlight) → flights n ≡ Some f → f.number ≡ n
  pub listed : (n : ℕ) (f : WaitingFlight) → flights n ≡ Some f → list_any (is_entry_of f) entries ≡ true

-- that they are is one fact, however it was shown
pub AreListed-prop : (flights : ℕ → Option WaitingFlight) (entries : List Entry) → IsProp (AreListed flights entries)
AreListed-prop flights entries = Prim.hlevel props
