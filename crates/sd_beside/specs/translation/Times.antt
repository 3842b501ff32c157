-- A history that comes later: all references, and all clocks that are set.
use Rattle.std.specs.Prelude.{ℕ, ◌+◌, List, map}
use Rattle.sd_sched.specs.declared.Event.{Event}
use Rattle.sd_sched.specs.declared.Event.TheVariants as event

-- the event, where reference times and clocks are greater by a number
abbrev pub time_moved : ℕ → Event → Event
time_moved by (event.Start reference device counter clock eps) = event.Start (reference + by) device counter (clock + by) eps
time_moved by (event.Tick reference device counter) = event.Tick (reference + by) device counter
time_moved by (event.Recv reference device counter message) = event.Recv (reference + by) device counter message
time_moved by (event.Lose reference message) = event.Lose (reference + by) message
time_moved by (event.FailDevice reference device) = event.FailDevice (reference + by) device
time_moved by (event.FailLink reference link) = event.FailLink (reference + by) link
time_moved by (event.Fix reference device counter clock eps) = event.Fix (reference + by) device counter (clock + by) eps
time_moved by (event.Ask reference device counter) = event.Ask (reference + by) device counter
time_moved by (event.Stage reference) = event.Stage (reference + by)
time_moved by (event.Give reference device) = event.Give (reference + by) device
time_moved by (event.Commit reference device counter) = event.Commit (reference + by) device counter
time_moved by (event.Seal reference device) = event.Seal (reference + by) device
time_moved by (event.Join reference device counter clock eps) = event.Join (reference + by) device counter (clock + by) eps
time_moved by (event.MendDevice reference device) = event.MendDevice (reference + by) device
time_moved by (event.MendLink reference link) = event.MendLink (reference + by) link
time_moved by (event.End reference) = event.End (reference + by)

-- the events, all so much later
abbrev pub times_moved : ℕ → List Event → List Event
times_moved by events = map (time_moved by) events
