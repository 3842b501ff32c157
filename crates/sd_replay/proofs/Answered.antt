-- How an event is answered: where it happened, where it is refused, and where another call answers it.
use Rattle.std.specs.Prelude.{◌≡◌, List, Result, Ok, Err, IfErr, IfSome, OnOk}
use Rattle.std.proofs.Common.{sym, ap, subst, ◌∙◌}
use Rattle.std.proofs.lemmas.Result.{IfErr-weaker}
use Rattle.sd_device.specs.declared.node.Node.{Ghosts}
use Rattle.sd_device.specs.declared.msg.observer.Observer as observers
use Rattle.sd_sched.specs.declared.Event.{Event}
use Rattle.sd_history.specs.World.{Setting}
use Rattle.sd_history.specs.Nodes.{NodeStep, steps_of}
use Rattle.sd_history.specs.Refusals.{refusal}
use Rattle.sd_replay.specs.declared.replay.Replay.{Replay}
use Rattle.sd_replay.specs.declared.faults.ReplayFault.{ReplayFault}
use Rattle.sd_replay.specs.declared.faults.ReplayFault.TheVariants.{Apply}
use Rattle.sd_replay.specs.Calm.{StaysCalm}
use Rattle.sd_replay.specs.Replaying.{StandsFor, IsStepped, IsAnswered, IsFault}
use Rattle.sd_replay.proofs.Calm.{stays_calm}
use Rattle.sd_replay.proofs.Causes.{unrefused}

-- it happened: an event that was accepted is not refused
pub answered_done : {N V : Type 0} (g : Ghosts N) (o : observers.Ghosts V) (old new : Replay N V g o) (e : Event) (u : Unit {0})
    → ((setting : Setting) (run : List (NodeStep N)) → StandsFor g o old setting run → IsStepped g o new setting run e)
    → IsAnswered g o old new e (Ok u)
answered_done g o old new e u stepped =
    record {
      cause =
          λ setting run stands.
          let done = stepped setting run stands in
          unrefused (Ok u) setting (steps_of run) e (ap (refusal setting (steps_of run)) (sym done.happens) ∙ done.stands.made.fabric.accepted.1);
      refused = tt;
      calm = λ setting run stands. stays_calm setting stands.sound (steps_of run);
    }

-- it is refused with this fault
pub answered_fault : {N V : Type 0} (g : Ghosts N) (o : observers.Ghosts V) (old new : Replay N V g o) (e : Event) (result : Result (Unit {0}) ReplayFault)
    (fault : ReplayFault) → result ≡ Err fault
    → ((setting : Setting) (run : List (NodeStep N)) → StandsFor g o old setting run
    → IfSome (refusal setting (steps_of run) e) (λ cause. result ≡ Err (Apply cause)))
    → ((setting : Setting) (run : List (NodeStep N)) → StandsFor g o old setting run
    → StandsFor g o new setting run × IsFault fault setting (steps_of run) e)
    → IsAnswered g o old new e result
answered_fault {N} g o old new e result fault is cause refused =
    record {
      cause = cause;
      refused =
          subst
          (λ (r : Result (Unit {0}) ReplayFault). IfErr r (λ f. (setting : Setting) (run : List (NodeStep N)) → StandsFor g o old setting run
          → StandsFor g o new setting run × IsFault f setting (steps_of run) e)) (sym is) refused;
      calm =
          subst
          (λ (r : Result (Unit {0}) ReplayFault). OnOk r ((setting : Setting) (run : List (NodeStep N)) → StandsFor g o new setting run
          → StaysCalm setting (steps_of run))) (sym is) tt;
    }

-- another call answers it, and until then all stands as before
pub answered_after : {N V : Type 0} (g : Ghosts N) (o : observers.Ghosts V) (old middle new : Replay N V g o) (e : Event)
    (result : Result (Unit {0}) ReplayFault)
    → ((setting : Setting) (run : List (NodeStep N)) → StandsFor g o old setting run → StandsFor g o middle setting run)
    → IsAnswered g o middle new e result → IsAnswered g o old new e result
answered_after g o old middle new e result keeps answered =
    record {
      cause = λ setting run stands. answered.cause setting run (keeps setting run stands);
      refused = IfErr-weaker result _ _ (λ fault says setting run stands. says setting run (keeps setting run stands)) answered.refused;
      calm = answered.calm;
    }
