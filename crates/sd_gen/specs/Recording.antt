-- For which runs a recording stands.
use Rattle.std.specs.Prelude.{◌≡◌, reverse}
use Rattle.sd_device.specs.contracts.device.DeviceNode.TheImpl.{ghosts as device}
use Rattle.sd_history.specs.World.{Setting}
use Rattle.sd_history.specs.Steps.{events_of}
use Rattle.sd_history.specs.Nodes.{steps_of}
use Rattle.sd_fleet.specs.Standing as fleets
use Rattle.sd_gen.specs.declared.recording.Recording.{Recording}
use Rattle.sd_gen.specs.Driving.{Run}

-- its fleet does, and the events are those of the run
pub record StandsFor (recording : Recording) (setting : Setting) (run : Run) : Type 0 where
  pub fleet : fleets.StandsFor device recording.fleet setting run
  pub events : recording.events ≡ reverse (events_of (steps_of run))
