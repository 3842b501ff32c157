-- What a fleet of exact nodes stands for is computed from its events alone.
use Rattle.std.specs.Prelude.{◌≡◌, List}
use Rattle.sd_device.specs.declared.node.Node.{Ghosts}
use Rattle.sd_history.specs.World.{Setting}
use Rattle.sd_history.specs.Steps.{Step, events_of}
use Rattle.sd_history.specs.Chronicle.{chronicle, IsHistory}
use Rattle.sd_history.specs.Nodes.{NodeStep, steps_of}
use Rattle.sd_fleet.specs.declared.fleet.Fleet.{Fleet}
use Rattle.sd_fleet.specs.Standing.{StandsFor}

-- the events of the steps are a history, and the steps are its chronicle
pub record AreChronicle (setting : Setting) (steps : List Step) : Type 0 where
  pub history : IsHistory setting (events_of steps)
  pub chronicle : steps ≡ chronicle setting (events_of steps)

-- whichever run a fleet stands for
abbrev pub NodesKeepChronicle : {N : Type 0} → Ghosts N → Type 0
NodesKeepChronicle {N} g =
    (fleet : Fleet N g) (setting : Setting) (run : List (NodeStep N)) → StandsFor g fleet setting run → AreChronicle setting (steps_of run)
