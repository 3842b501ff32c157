-- The schedule of a number.
use Rattle.std.specs.Prelude.{ℕ, List, reverse}
use Rattle.sd_sched.specs.declared.Event.{Event}
use Rattle.sd_history.specs.World.{Setting}
use Rattle.sd_gen.specs.Drafts.{history_of}

-- the events of the schedule, in order
unfoldable pub schedule : Setting → (number : ℕ) → List Event
schedule setting number = reverse (history_of setting number)
