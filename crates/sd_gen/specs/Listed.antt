-- Events that lines of a schedule can say.
use Rattle.std.specs.Prelude.{List, All, IsTrue}
use Rattle.sd_sched.specs.declared.Event.{Event}
use Rattle.sd_sched.specs.Spelled.{is_within}

-- the numbers of each are within the limits of their fields
abbrev pub AreWithin : List Event → Type 0
AreWithin events = All (λ e. IsTrue (is_within e)) events
