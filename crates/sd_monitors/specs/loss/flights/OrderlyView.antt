-- What is seen of flights that wait in the order in which they were sent.
use Rattle.std.specs.Prelude.{◌≡◌, ℕ, ◌-◌, true, Option}
use Rattle.std.specs.List.{All}
use Rattle.std.specs.VecDeque.{deque_len, deque_capacity}
use Rattle.sd_monitors.specs.declared.loss.flights.WaitingFlight.{WaitingFlight}
use Rattle.sd_monitors.specs.loss.flights.OrderlyKept.{waits_at, IsBefore}
use Rattle.sd_monitors.specs.declared.loss.flights.orderly.Orderly.{Orderly}

-- the flight of a number, where it waits
abbrev pub orderly_at : Orderly → ℕ → Option WaitingFlight
orderly_at orderly n = waits_at orderly.entries.items n

-- how many are kept, of which some may no longer wait
abbrev pub orderly_count : Orderly → ℕ
orderly_count orderly = deque_len orderly.entries

-- for how many there is memory
abbrev pub orderly_places : Orderly → ℕ
orderly_places orderly = deque_capacity orderly.entries

-- for how many more there is room
abbrev pub orderly_room : Orderly → ℕ
orderly_room orderly = deque_capacity orderly.entries - deque_len orderly.entries

-- each that is kept is before the flight
abbrev pub AreBefore : Orderly → WaitingFlight → Type 0
AreBefore orderly flight = All (λ e. IsBefore e.flight flight) orderly.entries.items

-- each that is kept waits
abbrev pub AllWait : Orderly → Type 0
AllWait orderly = All (λ e. e.waits ≡ true) orderly.entries.items
