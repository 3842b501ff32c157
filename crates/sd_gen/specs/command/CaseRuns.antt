-- For which runs the replay of a case stands.
use Rattle.sd_device.specs.contracts.device.DeviceNode.TheImpl.{ghosts as device}
use Rattle.sd_device.specs.contracts.msg.observer.NoObserverObserver.TheImpl.{ghosts as nobody}
use Rattle.sd_history.specs.World.{Setting}
use Rattle.sd_gen.specs.Driving.{Run}
use Rattle.sd_replay.specs.Replaying as replays
use Rattle.sd_gen.specs.declared.command.case_run.CaseRun.{CaseRun}

-- the replay of a case stands for the run
abbrev pub StandsFor : CaseRun → Setting → Run → Type 0
StandsFor replayed setting run = replays.StandsFor device nobody replayed.replay setting run
