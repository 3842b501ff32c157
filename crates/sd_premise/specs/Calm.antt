-- A tick and a receipt that leave the open window as it is, by what the monitors need of them, and what a quick way does with such.
use Rattle.std.specs.Prelude.{◌≡◌, ℕ, ◌+◌, ◌≤◌, List, ◌∷◌, Some, None}
use Rattle.sd_device.specs.declared.msg.Flight.{Flight}
use Rattle.sd_history.specs.declared.BrokenSet.{BrokenSet}
use Rattle.sd_history.specs.Premises as premises
use Rattle.sd_history.specs.World.{Setting, Seen}
use Rattle.sd_monitors.specs.clocks.Kinds.{IsTick, IsReceipt}
use Rattle.sd_premise.specs.Order.{CanFollow}
use Rattle.sd_premise.specs.Standing.{StandsFor, room_of, net_of}
use Rattle.sd_premise.specs.Worlds.{world_after}
use Rattle.sd_premise.specs.declared.premises.Premises.{Premises}

-- a tick with these flights that receives nothing, with which no window closes and no device enters the staged plan
pub record IsCalmTick (s : Seen) (reference device counter : ℕ) (sent : List Flight) : Type 0 where
  pub tick : IsTick s reference device counter
  pub taken : s.taken ≡ None
  pub activated : s.activated ≡ None
  pub sends : s.sent ≡ sent

-- a receipt of this flight, with which no window closes and no device enters the staged plan
pub record IsCalmReceipt (s : Seen) (reference device counter : ℕ) (flight : Flight) (sent : List Flight) : Type 0 where
  pub message : ℕ
  pub receipt : IsReceipt s reference device counter message
  pub taken : s.taken ≡ Some flight
  pub activated : s.activated ≡ None
  pub sends : s.sent ≡ sent

-- The monitors see an event of this kind that sends this many flights: they stand for each list that it can follow with the event, and the
-- answer is what breaks with it.
pub record Sees (IsSuch : Seen → Type 0) (sends : ℕ) (old new : Premises) (answer : BrokenSet) : Type 0 where
  pub stands : (setting : Setting) (earlier : List Seen) (s : Seen) → IsSuch s → CanFollow setting earlier s → StandsFor old setting earlier
      → StandsFor new setting (s ∷ earlier)
  pub breaks : (setting : Setting) (earlier : List Seen) (s : Seen) → IsSuch s → CanFollow setting earlier s → StandsFor old setting earlier
      → answer ≡ premises.breaks setting (s ∷ earlier)
  pub room : room_of old ≤ room_of new + sends
  pub world : (s : Seen) → IsSuch s → new.world ≡ world_after old.world s
  pub network : net_of new ≡ net_of old
