-- What is tried in turn, and what certain rounds have besides.
use Rattle.std.specs.Prelude.{ℕ, List, slice_index}
use Rattle.sd_sched.specs.declared.Event.{Event}
use Rattle.sd_sched.specs.declared.Event.TheVariants.{Tick, Give, Seal, Ask, FailDevice, Stage, Commit, End}
use Rattle.sd_history.specs.World.{Setting}
use Rattle.sd_gen.specs.declared.turns.Turn.{Turn}
use Rattle.sd_gen.specs.declared.turns.Turn.TheVariants as turn
use Rattle.sd_gen.specs.Drafts.{Draft, counter_by, counter_at, try, try_each_up, receive_until}

-- the event of a device at a reference, with the leads of all devices
abbrev pub event_by : Turn → ℕ → List ℕ → ℕ → Event
event_by turn.Tick r leads d = Tick r d (counter_by (slice_index leads d) r)
event_by turn.Give r leads d = Give r d
event_by turn.Seal r leads d = Seal r d
event_by turn.Ask r leads d = Ask r d (counter_by (slice_index leads d) r)

-- round 21, 150 and 200
abbrev pub failed : Setting → Draft → Draft
failed setting y = try setting (FailDevice 1025000000 0) (receive_until setting 1025000000 y)

-- the draft once the next plan is staged, given and committed
abbrev pub renewed : Setting → ℕ → Draft → Draft
renewed setting r y = try setting (Commit r 1 (counter_at y 1 r)) (try_each_up setting (λ d. Give r d) (try setting (Stage r) y))

-- the draft once each device is asked and the schedule ends
abbrev pub ended : Setting → ℕ → Draft → Draft
ended setting r y = try setting (End r) (try_each_up setting (λ d. Ask r d (counter_at y d r)) y)
