-- For which run a fleet stands.
use Rattle.std.specs.Prelude.{◌≡◌, ◌⊎◌, ℕ, ◌<◌, ◌≤◌, List, ◌∷◌, length, Some, None, IfSome, IsTrue}
use Rattle.sd_device.specs.declared.node.Node.{Ghosts}
use Rattle.sd_sched.specs.declared.Event.{Event}
use Rattle.sd_history.specs.declared.ApplyFault.{ApplyFault}
use Rattle.sd_history.specs.declared.ApplyFault.TheVariants.{Memory}
use Rattle.sd_history.specs.World.{Setting}
use Rattle.sd_history.specs.Steps.{Step}
use Rattle.sd_history.specs.Refusals.{refusal}
use Rattle.sd_history.specs.Nodes.{NodeStep, IsRun, steps_of, node_in}
use Rattle.sd_fleet.specs.declared.Outcome.{Outcome}
use Rattle.sd_fleet.specs.Registers.{Registers}
use Rattle.sd_fleet.specs.Causes.{refusal_in}
use Rattle.sd_fleet.specs.Room.{most_sent_in}
use Rattle.sd_fleet.specs.Doing.{may_send}
use Rattle.sd_fleet.specs.Calling.{IsLimited}
use Rattle.sd_fleet.specs.Outcomes.{outcome_of}
use Rattle.sd_fleet.specs.FabricStanding as fabric
use Rattle.sd_fleet.specs.declared.fleet.Fleet.{Fleet}
use Rattle.sd_fleet.specs.Nodes.{node_at}

-- The fleet keeps what the words on histories say of the run, and the nodes that the run made of its devices.
pub record StandsFor {N : Type 0} (g : Ghosts N) (fleet : Fleet N g) (setting : Setting) (run : List (NodeStep N)) : Type 0 where
  pub is_run : IsRun g setting run
  pub fabric : fabric.Stands fleet.fabric setting (steps_of run)
  pub nodes : (d : ℕ) → d < length setting.net.devices → node_at fleet.nodes.items d ≡ node_in run d

-- the event is not refused, and there is room for all messages that it sends
pub record IsPrepared (r : Registers) (e : Event) : Type 0 where
  pub accepted : refusal_in r e ≡ None
  pub room : most_sent_in r e ≤ r.book.room

-- the event was accepted after the run, and came to this: the fleet stands for the run with one step more, of just this event
pub record IsAccepted {N : Type 0} (g : Ghosts N) (fleet : Fleet N g) (setting : Setting) (run : List (NodeStep N)) (e : Event)
    (outcome : Outcome) : Type 0 where
  pub next : NodeStep N
  pub happens : next.step.seen.event ≡ e
  pub comes : outcome ≡ outcome_of next.step
  pub stands : StandsFor g fleet setting (next ∷ run)

-- the event happened to the fleet, and came to this
pub record HasHappened {N : Type 0} (g : Ghosts N) (old new : Fleet N g) (e : Event) (outcome : Outcome) : Type 0 where
  pub accepted : (setting : Setting) (run : List (NodeStep N)) → StandsFor g old setting run → IsAccepted g new setting run e outcome
  pub limited : IfSome outcome.report (λ told. IsLimited told.1)
  pub few : outcome.sent ≤ most_sent_in old.fabric e

-- the fault is that of the history; or memory ran out, at a tick or a receipt that the history accepts
abbrev pub IsFault : ApplyFault → Setting → List Step → Event → Type 0
IsFault fault setting steps e = (refusal setting steps e ≡ Some fault) ⊎ ((fault ≡ Memory) × (refusal setting steps e ≡ None) × IsTrue (may_send e))
