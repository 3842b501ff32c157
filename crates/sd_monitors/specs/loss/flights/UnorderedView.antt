-- What is seen of flights that wait in no order.
use Rattle.std.specs.Prelude.{◌≡◌, ℕ, ◌-◌, min, true, Option}
use Rattle.std.specs.List.{All}
use Rattle.std.specs.HashMap.{spare, hash_map_len}
use Rattle.std.specs.BinaryHeap.{heap_items, heap_len, heap_capacity}
use Rattle.sd_monitors.specs.declared.loss.flights.WaitingFlight.{WaitingFlight}
use Rattle.sd_monitors.specs.loss.flights.UnorderedKept.{flight_in, is_waiting}
use Rattle.sd_monitors.specs.declared.loss.flights.unordered.Unordered.{Unordered}

-- the flight of a number, where it waits
abbrev pub unordered_at : Unordered → ℕ → Option WaitingFlight
unordered_at unordered n = flight_in unordered.flights n

-- how many wait
abbrev pub unordered_count : Unordered → ℕ
unordered_count unordered = hash_map_len unordered.flights

-- for how many dues there is memory
abbrev pub due_places : Unordered → ℕ
due_places unordered = heap_capacity unordered.dues

-- how many dues are kept
abbrev pub due_count : Unordered → ℕ
due_count unordered = heap_len unordered.dues

-- each due that is kept is that of a flight that waits
abbrev pub AllDue : Unordered → Type 0
AllDue unordered = All (λ e. is_waiting (flight_in unordered.flights) e ≡ true) (heap_items unordered.dues)

-- for how many more there is room
abbrev pub unordered_room : Unordered → ℕ
unordered_room unordered = min (spare unordered.flights) (heap_capacity unordered.dues - heap_len unordered.dues)
