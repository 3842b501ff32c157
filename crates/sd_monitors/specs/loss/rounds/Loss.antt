-- What is kept of the flights that were seen: those that wait, up to which number a failure interrupted them, and the rounds that are spoiled.
use Rattle.std.specs.Prelude.{◌≡◌, ℕ, ◌<◌, Bool, true, false, ◌⊎◌, List, [], ◌∷◌, Contains, Option, Some, None, option_map, nat_eq, nat_le, if◌then◌else◌}
use Rattle.sd_num.specs.Lists.{map_or}
use Rattle.sd_plan.specs.declared.topo.Thing.{Thing}
use Rattle.sd_device.specs.declared.msg.Flight.{Flight}
use Rattle.sd_history.specs.World.{Seen, fails}
use Rattle.sd_history.specs.Premises.{reaching_flights, is_overdue, was_received, is_round}
use Rattle.sd_monitors.specs.declared.loss.flights.WaitingFlight.{WaitingFlight}
use Rattle.sd_monitors.specs.loss.flights.Kept.{kept_of}
use Rattle.sd_monitors.specs.loss.flights.Interrupted.{is_interrupted}
use Rattle.sd_monitors.specs.loss.rounds.Order.{last_sent}

-- Flights that wait

-- the number of the flight that the event receives
abbrev pub number_taken : Seen → Option ℕ
number_taken s = option_map (λ f. f.number) s.taken

-- the flight was sent and not received, and no event lies past its due
pub record Waits (seen : List Seen) (f : Flight) : Type 0 where
  pub sent : Contains (reaching_flights seen) f
  pub in_time : is_overdue seen f ≡ false
  pub unreceived : was_received seen f.number ≡ false

-- what is kept under a number is that of the flight of this number, which waits
pub record IsKeptOf (seen : List Seen) (n : ℕ) (kept : WaitingFlight) : Type 0 where
  pub flight : Flight
  pub same : kept_of flight ≡ kept
  pub number : flight.number ≡ n
  pub waits : Waits seen flight

-- so is all that is kept, and each flight that waits is kept under its number
pub record AreWaiting (seen : List Seen) (waiting : ℕ → Option WaitingFlight) : Type 0 where
  pub found : (n : ℕ) (kept : WaitingFlight) → waiting n ≡ Some kept → IsKeptOf seen n kept
  pub all : (f : Flight) → Waits seen f → waiting f.number ≡ Some (kept_of f)

-- what waits with the flights that are sent
abbrev pub with_sent : List Flight → (ℕ → Option WaitingFlight) → ℕ → Option WaitingFlight
with_sent [] waiting n = waiting n
with_sent (f ∷ fs) waiting n = with_sent fs (λ m. if nat_eq f.number m then Some (kept_of f) else waiting m) n

-- the flight where its due does not lie before the reference
abbrev pub if_in_time : ℕ → Option WaitingFlight → Option WaitingFlight
if_in_time reference waiting = map_or waiting None (λ f. if nat_le reference f.due then Some f else None)

-- Interruptions

-- the number up to which the flights of the thing were interrupted: they were sent before its latest failure
abbrev pub mark_in : List Seen → Thing → ℕ
mark_in [] x = 0
mark_in (s ∷ earlier) x = if fails x s.event then last_sent earlier else mark_in earlier x

-- Spoiled rounds

-- a waiting flight is overdue at the reference, and was not interrupted
pub record IsLost (waiting : ℕ → Option WaitingFlight) (marks : Thing → ℕ) (reference : ℕ) (f : WaitingFlight) : Type 0 where
  pub waits : waiting f.number ≡ Some f
  pub overdue : f.due < reference
  pub whole : is_interrupted marks f ≡ false

-- what the new rounds are: old ones, and those of lost flights
abbrev pub HasOnlyLost : (ℕ → Option WaitingFlight) → (Thing → ℕ) → ℕ → (ℕ → ℕ → Bool) → (ℕ → ℕ → Bool) → Type 0
HasOnlyLost waiting marks reference old new =
    (term round : ℕ) → new term round ≡ true → (old term round ≡ true) ⊎ ((f : WaitingFlight) × IsLost waiting marks reference f × (is_round f.stamp term round ≡ true))

-- the rounds of all lost flights are added, and none is left out
pub record AddsLost (waiting : ℕ → Option WaitingFlight) (marks : Thing → ℕ) (reference : ℕ) (old new : ℕ → ℕ → Bool) : Type 0 where
  pub kept : (term round : ℕ) → old term round ≡ true → new term round ≡ true
  pub added : (f : WaitingFlight) → IsLost waiting marks reference f → new f.stamp.term f.stamp.round ≡ true
