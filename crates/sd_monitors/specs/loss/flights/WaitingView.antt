-- What is seen of flights that wait for their receipt.
use Rattle.std.specs.Prelude.{ℕ, ◌+◌, min, Option}
use Rattle.sd_monitors.specs.declared.loss.flights.WaitingFlight.{WaitingFlight}
use Rattle.sd_monitors.specs.loss.flights.WaitingKept.{either_at}
use Rattle.sd_monitors.specs.loss.flights.OrderlyView.{orderly_at, orderly_count, orderly_room}
use Rattle.sd_monitors.specs.loss.flights.UnorderedView.{unordered_at, unordered_count, unordered_room}
use Rattle.sd_monitors.specs.declared.loss.flights.waiting.Waiting.{Waiting}

-- the flight of a number, where it waits
abbrev pub waiting_at : Waiting → ℕ → Option WaitingFlight
waiting_at waiting n = either_at (orderly_at waiting.orderly) (unordered_at waiting.others) n

-- how many are kept: no fewer than wait
abbrev pub count_of : Waiting → ℕ
count_of waiting = orderly_count waiting.orderly + unordered_count waiting.others

-- for how many more there is room
abbrev pub room_for : Waiting → ℕ
room_for waiting = min (orderly_room waiting.orderly) (unordered_room waiting.others)
