-- What is seen of the two kinds of events that come most often, where no window closes with them.
use Rattle.std.specs.Prelude.{◌≡◌, ℕ, false}
use Rattle.sd_sched.specs.declared.Event.TheVariants as event
use Rattle.sd_history.specs.World.{Seen}

-- a tick of a device
pub record IsTick (s : Seen) (reference device counter : ℕ) : Type 0 where
  pub event : s.event ≡ event.Tick reference device counter
  pub stays : s.closed ≡ false

-- a receipt
pub record IsReceipt (s : Seen) (reference device counter message : ℕ) : Type 0 where
  pub event : s.event ≡ event.Recv reference device counter message
  pub stays : s.closed ≡ false
