-- The clock that an event sets.
use Rattle.std.specs.Prelude.{ℕ, Option, Some, None}
use Rattle.sd_sched.specs.declared.Event.{Event}
use Rattle.sd_sched.specs.declared.Event.TheVariants.{Start, Fix, Join}

-- the clock to which the event sets the estimate of its device
abbrev pub clock_of : Event → Option ℕ
clock_of (Start reference device counter clock eps) = Some clock
clock_of (Fix reference device counter clock eps) = Some clock
clock_of (Join reference device counter clock eps) = Some clock
clock_of _ = None
