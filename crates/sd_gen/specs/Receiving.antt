-- One receipt after the other.
use Rattle.std.specs.Prelude.{◌≡◌, Bool, true, false, Option, Some, None}
use Rattle.sd_sched.specs.declared.Event.TheVariants.{Recv}
use Rattle.sd_history.specs.World.{Setting}
use Rattle.sd_gen.specs.declared.arrivals.Arrival.{Arrival}
use Rattle.sd_gen.specs.declared.driven.Driven.{Ghosts}
use Rattle.sd_gen.specs.declared.driver.Driver.{Driver}
use Rattle.sd_gen.specs.Drafts.{Draft, counter_at, try, receive}
use Rattle.sd_gen.specs.Standing.{StandsFor}

-- a message that waits no longer is received
abbrev pub received : Setting → Arrival → Draft → Draft
received setting w x = try setting (Recv w.moment w.receiver (counter_at x w.receiver w.moment) w.number) x

-- the one that came next, if any, was received, and it is told whether there was one
abbrev pub ReceivesNext : {D : Type 0} (g : Ghosts D) → Driver D → Setting → Draft → Option Arrival → Bool → Type 0
ReceivesNext g driver setting x None more = (more ≡ false) × StandsFor g driver setting x
ReceivesNext g driver setting x (Some w) more = (more ≡ true) × StandsFor g driver setting (receive setting w x)
