-- For which work a replay stands that goes through a schedule.
use Rattle.std.specs.Prelude.{◌≡◌, List}
use Rattle.sd_device.specs.declared.msg.observer.Observer as observers
use Rattle.sd_sched.specs.declared.Event.{Event}
use Rattle.sd_history.specs.World.{Setting}
use Rattle.sd_replay.specs.Devices.{HasReplayed}
use Rattle.sd_files.specs.work.Works.{Work}
use Rattle.sd_commands.specs.replay.Replays.{replay_work, order_work}
use Rattle.sd_commands.specs.declared.replay.replay_work.ReplayWork.{ReplayWork}
use Rattle.sd_commands.specs.declared.replay.order_work.OrderWork.{OrderWork}
use Rattle.sd_commands.specs.contracts.replay.observer.WaitObserverObserver.TheImpl.{ghosts}

-- the events were replayed over some setting, and this is the work of `replay` over it
pub record DoesReplay {V : Type 0} (o : observers.Ghosts V) (state : ReplayWork V o) (work : Work Event) (events : List Event) : Type 0 where
  pub setting : Setting
  pub is : work ≡ replay_work setting
  pub replayed : HasReplayed o state.replay setting events

-- the same of `order`
pub record DoesOrder (state : OrderWork) (work : Work Event) (events : List Event) : Type 0 where
  pub setting : Setting
  pub is : work ≡ order_work setting
  pub replayed : HasReplayed ghosts state.replayed.replay setting events
