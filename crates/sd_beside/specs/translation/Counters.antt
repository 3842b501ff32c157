-- A history whose counters begin elsewhere, in each life of a device.
use Rattle.std.specs.Prelude.{◌≡◌, ℕ, ◌+◌, ◌-◌, ◌≤◌, true, List, [], ◌∷◌, count_by, Some, None, if◌then◌else◌}
use Rattle.sd_num.specs.Lists.{map_or, same_number, find_map_or}
use Rattle.sd_sched.specs.declared.Event.{Event}
use Rattle.sd_sched.specs.declared.Event.TheVariants as event
use Rattle.sd_sched.specs.Events.{device_of, counter_of}
use Rattle.sd_history.specs.World.{makes}

-- how often the device was made: which of its lives is the present one
abbrev pub life_of : List Event → ℕ → ℕ
life_of events d = count_by (makes d) events

-- of numbers for each device and each of its lives, the one of the device that the latest event names
abbrev pub number_of : (ℕ → ℕ → ℕ) → List Event → ℕ
number_of by [] = 0
number_of by (e ∷ earlier) = map_or (device_of e) 0 (λ d. by d (life_of (e ∷ earlier) d))

-- the event with a greater counter, where it has one
abbrev pub counter_moved : ℕ → Event → Event
counter_moved by (event.Start reference device counter clock eps) = event.Start reference device (counter + by) clock eps
counter_moved by (event.Tick reference device counter) = event.Tick reference device (counter + by)
counter_moved by (event.Recv reference device counter message) = event.Recv reference device (counter + by) message
counter_moved by (event.Fix reference device counter clock eps) = event.Fix reference device (counter + by) clock eps
counter_moved by (event.Ask reference device counter) = event.Ask reference device (counter + by)
counter_moved by (event.Commit reference device counter) = event.Commit reference device (counter + by)
counter_moved by (event.Join reference device counter clock eps) = event.Join reference device (counter + by) clock eps
counter_moved by e = e

-- the events, where the counters of each life of each device are greater by a number of its own
abbrev pub counters_moved : (ℕ → ℕ → ℕ) → List Event → List Event
counters_moved by [] = []
counters_moved by (e ∷ earlier) = counter_moved (number_of by (e ∷ earlier)) e ∷ counters_moved by earlier

-- the counter at the latest start or join of the device, and 0 before the first
abbrev pub made_at : List Event → ℕ → ℕ
made_at events d = find_map_or (λ e. if makes d e then counter_of e else None) events 0

-- the event with a lower counter, where it has one
abbrev pub counter_lowered : ℕ → Event → Event
counter_lowered by (event.Start reference device counter clock eps) = event.Start reference device (counter - by) clock eps
counter_lowered by (event.Tick reference device counter) = event.Tick reference device (counter - by)
counter_lowered by (event.Recv reference device counter message) = event.Recv reference device (counter - by) message
counter_lowered by (event.Fix reference device counter clock eps) = event.Fix reference device (counter - by) clock eps
counter_lowered by (event.Ask reference device counter) = event.Ask reference device (counter - by)
counter_lowered by (event.Commit reference device counter) = event.Commit reference device (counter - by)
counter_lowered by (event.Join reference device counter clock eps) = event.Join reference device (counter - by) clock eps
counter_lowered by e = e

-- the events, where each counter counts from the latest start or join of its device
abbrev pub counters_of_lives : List Event → List Event
counters_of_lives [] = []
counters_of_lives (e ∷ earlier) = counter_lowered (map_or (device_of e) 0 (made_at (e ∷ earlier))) e ∷ counters_of_lives earlier

-- no counter of a device is below that at its latest start or join
abbrev pub NeverBelowMaking : List Event → Type 0
NeverBelowMaking [] = Unit {0}
NeverBelowMaking (e ∷ earlier) =
    NeverBelowMaking earlier × ((d counter : ℕ) → same_number (device_of e) d ≡ true → counter_of e ≡ Some counter → made_at (e ∷ earlier) d ≤ counter)
