-- For which lists the monitor of ticks stands.
use Rattle.std.specs.Prelude.{◌≡◌, ℕ, ◌<◌, Bool, List, length, slice_index}
use Rattle.sd_history.specs.World.{Setting, Seen}
use Rattle.sd_history.specs.Premises.{tick_holds}
use Rattle.sd_world.specs.world.Registers.{Registers}
use Rattle.sd_world.specs.world.Standing.{Stands}
use Rattle.sd_monitors.specs.clocks.Memberships.{AreMembers}
use Rattle.sd_monitors.specs.clocks.Owing.{owed_at, TicksKept, TicksStand}

-- what is kept: the latest ticks, by device since when it owes one, the limit from one tick to the next, and whether the premise holds
pub record TickKept : Type 0 where
  pub ticks : TicksKept
  pub owed : List ℕ
  pub limit : ℕ
  pub holds : Bool

-- by device, since when it owes a tick
abbrev pub AreOwed : Setting → List Seen → List ℕ → Type 0
AreOwed setting seen owed = (d : ℕ) → d < length owed → slice_index owed d ≡ owed_at setting seen d

-- what is kept stands for what was seen
pub record TickStands (setting : Setting) (kept : TickKept) (seen : List Seen) : Type 0 where
  pub holds : kept.holds ≡ tick_holds setting seen
  pub limit : kept.limit ≡ setting.net.params.tick
  pub devices : length kept.owed ≡ length setting.net.devices
  pub ticks : TicksStand setting kept.ticks seen
  pub owed : AreOwed setting seen kept.owed

-- members, world and latest ticks are those of the setting and of what was seen
pub record TellOf (setting : Setting) (seen : List Seen) (rows : List (List Bool)) (registers : Registers) (kept : TicksKept) : Type 0 where
  pub members : AreMembers setting rows
  pub world : Stands registers setting seen
  pub ticks : TicksStand setting kept seen
