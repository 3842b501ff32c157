-- What is promised of each replay of exact nodes, as devices are: it stands for the chronicle of its events; while clocks, oscillators and links
-- are honest, each report has its reference time in it; and while no premise is broken, there is no alarm.
use Rattle.std.specs.Prelude.{◌≡◌, Bool, true, false, List, IsTrue}
use Rattle.std.specs.List.{list_all}
use Rattle.sd_num.specs.clock.Estimates.{contains}
use Rattle.sd_device.specs.declared.node.Node.{Ghosts}
use Rattle.sd_device.specs.declared.registers.Registers.{Registers}
use Rattle.sd_device.specs.contracts.device.DeviceNode.TheImpl.{ghosts}
use Rattle.sd_device.specs.declared.msg.observer.NoObserver.{NoObserver}
use Rattle.sd_device.specs.declared.msg.observer.Observer as observers
use Rattle.sd_device.specs.contracts.msg.observer.NoObserverObserver.TheImpl.{ghosts as nobody}
use Rattle.sd_history.specs.World.{Setting}
use Rattle.sd_sched.specs.declared.Event.{Event}
use Rattle.sd_history.specs.Steps.{Step, seen_of, events_of}
use Rattle.sd_history.specs.Nodes.{NodeStep, steps_of}
use Rattle.sd_history.specs.Premises.{is_honest, all_hold}
use Rattle.sd_history.specs.Lines.{Line, IntervalAlarm, reports}
use Rattle.sd_replay.specs.declared.replay.Replay.{Replay}
use Rattle.sd_replay.specs.Tallies.{lines_that}
use Rattle.sd_replay.specs.Replaying.{StandsFor}
use Rattle.sd_replay.specs.Calm.{IsChronicle, IsCalm}

-- a replay of devices that tells nobody of its reports
abbrev pub QuietReplay : Type 0
QuietReplay = Replay Registers NoObserver ghosts nobody

-- the replay stands for a run of these events, the newest first
pub record HasReplayed {N V : Type 0} {g : Ghosts N} (o : observers.Ghosts V) (replay : Replay N V g o) (setting : Setting) (events : List Event) : Type 0 where
  pub run : List (NodeStep N)
  pub stands : StandsFor g o replay setting run
  pub happened : events_of (steps_of run) ≡ events

-- whichever run that is, its events are a history, and its steps are their chronicle
abbrev pub NodesKeepChronicle : {N V : Type 0} → Ghosts N → observers.Ghosts V → Type 0
NodesKeepChronicle {N} {V} g o =
    (replay : Replay N V g o) (setting : Setting) (events : List Event) (replayed : HasReplayed o replay setting events)
    → IsChronicle setting (steps_of replayed.run) events

-- the line is the alarm of an interval that misses its reference
abbrev pub is_miss : Line → Bool
is_miss (IntervalAlarm device reference) = true
is_miss _ = false

-- each report contains its reference, and no line says otherwise
pub record AllContain (setting : Setting) (steps : List Step) : Type 0 where
  pub reports_contain : IsTrue (list_all (λ r. contains r.report r.reference) (reports steps))
  pub no_miss : lines_that is_miss setting steps ≡ 0

-- Of each run for which a replay stands. So no alarm of an interval comes before the first line that names the premise of starts,
-- drifts or delays as broken.
abbrev pub NodesContain : {N V : Type 0} → Ghosts N → observers.Ghosts V → Type 0
NodesContain {N} {V} g o =
    (replay : Replay N V g o) (setting : Setting) (run : List (NodeStep N)) → StandsFor g o replay setting run
    → IsTrue (is_honest setting (seen_of (steps_of run))) → AllContain setting (steps_of run)

-- Of each run for which a replay stands: while no premise is broken.
abbrev pub NodesStayCalm : {N V : Type 0} → Ghosts N → observers.Ghosts V → Type 0
NodesStayCalm {N} {V} g o =
    (replay : Replay N V g o) (setting : Setting) (run : List (NodeStep N)) → StandsFor g o replay setting run
    → IsTrue (all_hold setting (seen_of (steps_of run))) → IsCalm setting (steps_of run)
