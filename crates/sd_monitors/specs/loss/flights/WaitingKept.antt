-- Flights that wait in one of two places.
use Rattle.std.specs.Prelude.{◌≡◌, ℕ, false, ◌&&◌, Option, is_some}
use Rattle.std.specs.Option.{option_or}
use Rattle.std.proofs.Props.{props}
use Rattle.sd_monitors.specs.declared.loss.flights.WaitingFlight.{WaitingFlight}

-- the flight of a number, where it waits in the first place or else in the second
abbrev pub either_at : (ℕ → Option WaitingFlight) → (ℕ → Option WaitingFlight) → ℕ → Option WaitingFlight
either_at first second n = option_or (first n) (second n)

-- no number waits in both places
abbrev pub AreApart : (ℕ → Option WaitingFlight) → (ℕ → Option WaitingFlight) → Type 0
AreApart first second = (n : ℕ) → (is_some (first n) && is_some (second n)) ≡ false

-- that they are is one fact, however it was shown
pub AreApart-prop : (first second : ℕ → Option WaitingFlight) → IsProp (AreApart first second)
AreApart-prop first second = Prim.hlevel props
