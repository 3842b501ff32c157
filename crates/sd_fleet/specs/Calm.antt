-- A tick or a receipt against which nothing stands.
use Rattle.std.specs.Prelude.{ℕ, Bool, false, ◌&&◌, nat_eq, nat_le, Result, Ok, Err}
use Rattle.sd_device.specs.declared.msg.Flight.{Flight}
use Rattle.sd_device.specs.declared.msg.TakeFault.{TakeFault}
use Rattle.sd_sched.specs.declared.Event.{Event}
use Rattle.sd_sched.specs.declared.Event.TheVariants as event
use Rattle.sd_world.specs.world.Registers.{admits_call}
use Rattle.sd_fleet.specs.Registers.{Registers}
use Rattle.sd_fleet.specs.Causes.{flight_at}

-- the flight that was found has not ended at the reference, and is for the device
abbrev pub is_on_time : ℕ → ℕ → Result Flight TakeFault → Bool
is_on_time reference d (Ok f) = nat_le reference f.last && nat_eq f.receiver d
is_on_time reference d (Err e) = false

-- a tick or a receipt that is accepted with a look at the device, and at the flight, alone
abbrev pub is_calm : Registers → Event → Bool
is_calm r (event.Tick reference device counter) = admits_call r.membership.world reference device counter
is_calm r (event.Recv reference device counter message) =
    admits_call r.membership.world reference device counter && is_on_time reference device (flight_at r message)
is_calm r _ = false
