-- A replay over the files of a command, before the first line of its schedule.
use Rattle.std.specs.Prelude.{ℕ, List, []}
use Rattle.sd_device.specs.declared.registers.Registers.{Registers}
use Rattle.sd_device.specs.contracts.device.DeviceNode.TheImpl.{ghosts}
use Rattle.sd_device.specs.declared.msg.observer.Observer as observers
use Rattle.sd_history.specs.World.{Setting}
use Rattle.sd_replay.specs.declared.replay.Replay.{Replay}
use Rattle.sd_replay.specs.Devices.{HasReplayed}
use Rattle.sd_commands.specs.replay.Loaded.{AreLoaded}

-- the replay is one over what the files say, and nothing has happened in it
pub record HasStarted {V : Type 0} (o : observers.Ghosts V) (topology : List ℕ) (plans : List (List ℕ)) (replay : Replay Registers V ghosts o) : Type 0 where
  pub setting : Setting
  pub loaded : AreLoaded topology plans setting
  pub replayed : HasReplayed o replay setting []
