-- What is driven through a schedule, by the runs of devices for which it stands.
use Rattle.std.specs.Prelude.{◌≡◌, Bool, true, false, List, ◌∷◌, Some}
use Rattle.sd_device.specs.declared.registers.Registers.{Registers}
use Rattle.sd_device.specs.contracts.device.DeviceNode.TheImpl.{ghosts as device}
use Rattle.sd_sched.specs.declared.Event.{Event}
use Rattle.sd_history.specs.declared.ApplyFault.{ApplyFault}
use Rattle.sd_history.specs.World.{Setting}
use Rattle.sd_history.specs.Steps.{events_of}
use Rattle.sd_history.specs.Nodes.{NodeStep, IsRun, steps_of}
use Rattle.sd_history.specs.Refusals.{refusal}
use Rattle.sd_fleet.specs.declared.Outcome.{Outcome}
use Rattle.sd_fleet.specs.Outcomes.{outcome_of}

-- a run of devices as the rules say
abbrev pub Run : Type 0
Run = List (NodeStep Registers)

-- the event was accepted, and came to this: it stands for the run with one step more, of just this event
pub record IsAccepted {D : Type 0} (Stands : D → Setting → Run
    → Type 0) (driven : D) (setting : Setting) (run : Run) (e : Event) (outcome : Outcome) : Type 0 where
  pub next : NodeStep Registers
  pub happens : next.step.seen.event ≡ e
  pub comes : outcome ≡ outcome_of next.step
  pub is_run : IsRun device setting (next ∷ run)
  pub stands : Stands driven setting (next ∷ run)

-- the history refuses the event, which did not happen
pub record IsRefused {D : Type 0} (Stands : D → Setting → Run → Type 0) (driven : D) (setting : Setting) (run : Run) (e : Event) : Type 0 where
  pub why : ApplyFault
  pub refused : refusal setting (steps_of run) e ≡ Some why
  pub stands : Stands driven setting run

-- what came of an event that was offered
abbrev pub IsOffered : {D : Type 0} → (D → Setting → Run → Type 0) → D → Setting → Run → Event → Outcome → (accepted : Bool) → Type 0
IsOffered Stands driven setting run e outcome true = IsAccepted Stands driven setting run e outcome
IsOffered Stands driven setting run e outcome false = IsRefused Stands driven setting run e

-- these events have happened in it, the newest first
pub record HasHappened {D : Type 0} (Stands : D → Setting → Run → Type 0) (driven : D) (setting : Setting) (events : List Event) : Type 0 where
  pub run : Run
  pub stands : Stands driven setting run
  pub is_run : IsRun device setting run
  pub happened : events_of (steps_of run) ≡ events
