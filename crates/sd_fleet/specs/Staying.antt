-- A device that stands after an event as it did before.
use Rattle.std.specs.Prelude.{◌≡◌, ℕ}
use Rattle.sd_world.specs.membership.Memberships.{Registers, live_at, is_counted_at}

-- the device answers as before, and counts as live where it did
pub record StaysAt (old new : Registers) (d : ℕ) : Type 0 where
  pub answers : live_at new d ≡ live_at old d
  pub counted : is_counted_at new d ≡ is_counted_at old d
