-- What is kept of flights in the order in which they were sent.
use Rattle.std.specs.Prelude.{ℕ, ◌<◌, ◌≤◌, ◌&&◌, List, [], ◌∷◌, Option, Some, None, nat_eq, if◌then◌else◌}
use Rattle.std.specs.List.{AllPairs}
use Rattle.std.proofs.Props.{props}
use Rattle.sd_monitors.specs.declared.loss.flights.WaitingFlight.{WaitingFlight}
use Rattle.sd_monitors.specs.declared.loss.flights.orderly.Entry.{Entry}

-- the flight of a number, where it waits
abbrev pub waits_at : List Entry → ℕ → Option WaitingFlight
waits_at [] n = None
waits_at (e ∷ es) n = if nat_eq e.flight.number n && e.waits then Some e.flight else waits_at es n

-- the one has a lesser number, and is due no later
abbrev pub IsBefore : WaitingFlight → WaitingFlight → Type 0
IsBefore f g = (f.number < g.number) × (f.due ≤ g.due)

-- each flight is before all that stand after it
abbrev pub AreInOrder : List Entry → Type 0
AreInOrder entries = AllPairs (λ x y. IsBefore x.flight y.flight) entries

-- that they are is one fact, however it was shown
pub AreInOrder-prop : (entries : List Entry) → IsProp (AreInOrder entries)
AreInOrder-prop entries = Prim.hlevel props
