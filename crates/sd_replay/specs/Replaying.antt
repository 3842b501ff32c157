-- For which runs a replay stands, and how it goes on.
use Rattle.std.specs.Prelude.{◌≡◌, ℕ, Bool, false, ◌||◌, List, ◌∷◌, Option, Some, None, Result, Ok, Err, IsTrue, IfSome, IfErr, OnOk}
use Rattle.sd_device.specs.declared.node.Node.{Ghosts}
use Rattle.sd_device.specs.declared.msg.Flight.{Flight}
use Rattle.sd_device.specs.declared.msg.observer.Observer as observers
use Rattle.sd_sched.specs.declared.Event.{Event}
use Rattle.sd_sched.specs.Lines.{event_of_line}
use Rattle.sd_sched.specs.Events.{is_ask}
use Rattle.sd_history.specs.World.{Setting}
use Rattle.sd_history.specs.Steps.{Step}
use Rattle.sd_history.specs.Nodes.{NodeStep, steps_of}
use Rattle.sd_history.specs.Refusals.{refusal}
use Rattle.sd_fleet.specs.declared.Outcome.{Outcome}
use Rattle.sd_fleet.specs.declared.messages.Sent.{Sent}
use Rattle.sd_fleet.specs.Doing.{may_send}
use Rattle.sd_fleet.specs.Outcomes.{outcome_of}
use Rattle.sd_replay.specs.declared.replay.QuickEvent.{QuickEvent}
use Rattle.sd_replay.specs.declared.replay.Replay.{Replay}
use Rattle.sd_replay.specs.declared.faults.ReplayFault.{ReplayFault}
use Rattle.sd_replay.specs.declared.faults.ReplayFault.TheVariants.{Line, Apply, Memory}
use Rattle.sd_replay.specs.lines.Printed.{printed}
use Rattle.sd_replay.specs.Standing.{Stands}
use Rattle.sd_replay.specs.Calm.{StaysCalm}

-- The replay keeps what the words on histories say of the run: the fleet, the premises, loops and roots, the lines of its newest event, its
-- tally and its reports.
abbrev pub StandsFor : {N V : Type 0} (g : Ghosts N) (o : observers.Ghosts V) → Replay N V g o → Setting → List (NodeStep N) → Type 0
StandsFor g o replay setting run = Stands g o replay.fleet replay.monitors replay.event_output replay.observer setting run

-- the lines that it lends
abbrev pub lines_in : {N V : Type 0} {g : Ghosts N} {o : observers.Ghosts V} → Replay N V g o → List ℕ
lines_in replay = printed replay.event_output.lines

-- the event was accepted after the run: the replay stands for the run with one step more, of just this event
pub record IsStepped {N V : Type 0} (g : Ghosts N) (o : observers.Ghosts V) (replay : Replay N V g o) (setting : Setting) (run : List (NodeStep N))
    (e : Event) : Type 0 where
  pub next : NodeStep N
  pub happens : next.step.seen.event ≡ e
  pub stands : StandsFor g o replay setting (next ∷ run)

-- and came to this
pub record IsSteppedTo {N V : Type 0} (g : Ghosts N) (o : observers.Ghosts V) (replay : Replay N V g o) (setting : Setting) (run : List (NodeStep N))
    (e : Event) (outcome : Outcome) : Type 0 where
  pub stepped : IsStepped g o replay setting run e
  pub comes : outcome ≡ outcome_of stepped.next.step

-- what an event comes to after which its device answers as before: it receives this flight, if any, and sends these messages, and its device acts
-- as root or not
abbrev pub quick_outcome : Option Flight → Sent → Bool → Outcome
quick_outcome taken sent acted =
    record {
      report = None;
      taken = taken;
      first_sent = sent.first;
      sent = sent.count;
      activated = None;
      acted = acted;
      closed = false;
      ended = false;
    }

-- so what a tick comes to that sends these messages
abbrev pub ticked : Sent → QuickEvent
ticked sent = record { taken = None; sent = sent }

-- the event was accepted, and came to nothing else than that
pub record IsQuick {N V : Type 0} (g : Ghosts N) (o : observers.Ghosts V) (replay : Replay N V g o) (setting : Setting) (run : List (NodeStep N))
    (e : Event) (quick : QuickEvent) : Type 0 where
  pub stepped : IsStepped g o replay setting run e
  pub comes : outcome_of stepped.next.step ≡ quick_outcome quick.taken quick.sent stepped.next.step.seen.acted

-- the event was tried as such a one: it happened so, or all stands as before
pub record IsTried {N V : Type 0} (g : Ghosts N) (o : observers.Ghosts V) (old new : Replay N V g o) (e : Event) (result : Option QuickEvent) : Type 0 where
  pub accepted : IfSome result (λ quick. (setting : Setting) (run : List (NodeStep N)) → StandsFor g o old setting run
      → IsQuick g o new setting run e quick)
  pub stands : result ≡ None → (setting : Setting) (run : List (NodeStep N)) → StandsFor g o old setting run → StandsFor g o new setting run

-- only a tick, a receipt and an ask take memory
abbrev pub may_take : Event → Bool
may_take e = may_send e || is_ask e

-- the fault is that of the history; or memory ran out at an event that the history accepts
abbrev pub IsFault : ReplayFault → Setting → List Step → Event → Type 0
IsFault (Line fault) setting steps e = ⊥
IsFault (Apply fault) setting steps e = refusal setting steps e ≡ Some fault
IsFault Memory setting steps e = (refusal setting steps e ≡ None) × IsTrue (may_take e)

-- What is answered of an event. Where the history refuses it, the fault is that cause; after a fault all stands as before, and the fault is one of the
-- history or of memory. And after an event there is no alarm while no premise is broken, where the nodes tell what devices tell.
pub record IsAnswered {N V : Type 0} (g : Ghosts N) (o : observers.Ghosts V) (old new : Replay N V g o) (e : Event) (result : Result (Unit {0}) ReplayFault)
    : Type 0 where
  pub cause : (setting : Setting) (run : List (NodeStep N)) → StandsFor g o old setting run
      → IfSome (refusal setting (steps_of run) e) (λ fault. result ≡ Err (Apply fault))
  pub refused : IfErr result (λ fault. (setting : Setting) (run : List (NodeStep N)) → StandsFor g o old setting run
      → StandsFor g o new setting run × IsFault fault setting (steps_of run) e)
  pub calm : OnOk result ((setting : Setting) (run : List (NodeStep N)) → StandsFor g o new setting run → StaysCalm setting (steps_of run))

-- the fault of a line: the bytes are none, or its event is not accepted
abbrev pub IsLineFault : ReplayFault → Setting → List Step → List ℕ → Type 0
IsLineFault (Line fault) setting steps line = event_of_line line ≡ Err fault
IsLineFault fault setting steps line = (e : Event) × (event_of_line line ≡ Ok e) × IsFault fault setting steps e
