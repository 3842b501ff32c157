-- A line that a replay takes, where its lines or its reason are put into the text.
use Rattle.std.proofs.Common.{◌≡◌, ℕ, List, Result, Ok, Err, refl, sym, ◌∙◌, subst}
use Rattle.std.specs.Prelude.{IfErr, IfOk, IfSome, OnOk}
use Rattle.sd_num.specs.declared.NoMemory.{NoMemory}
use Rattle.sd_device.specs.declared.registers.Registers.{Registers}
use Rattle.sd_device.specs.contracts.device.DeviceNode.TheImpl.{ghosts}
use Rattle.sd_device.specs.declared.msg.observer.Observer as observers
use Rattle.sd_sched.specs.declared.Event.{Event}
use Rattle.sd_sched.specs.declared.LineFault.{LineFault}
use Rattle.sd_sched.specs.Lines.{event_of_line}
use Rattle.sd_history.specs.Refusals.{refusal}
use Rattle.sd_replay.specs.declared.faults.ReplayFault.{ReplayFault}
use Rattle.sd_history.specs.World.{Setting}
use Rattle.sd_history.specs.Nodes.{NodeStep, steps_of}
use Rattle.sd_replay.specs.declared.faults.ReplayFault.TheVariants as fault
use Rattle.sd_replay.specs.declared.replay.Replay.{Replay}
use Rattle.sd_replay.specs.Devices.{HasReplayed}
use Rattle.sd_replay.specs.Replaying.{StandsFor, IsLineFault, IsStepped, lines_in}
use Rattle.sd_files.specs.work.Taking.{Takes}
use Rattle.sd_files.specs.declared.work.Taken.{Taken}
use Rattle.sd_files.specs.declared.work.Taken.TheVariants as taken
use Rattle.sd_commands.specs.replay.Reasoned.{HasReason}
use Rattle.sd_commands.specs.replay.Replays.{replay_work}
use Rattle.sd_commands.proofs.replay.Stepping.{accepts, refuses_event, refuses_line}

module _ {V : Type 0} (o : observers.Ghosts V) (result : Result Taken NoMemory) (old middle new : Replay Registers V ghosts o) (line text : List ℕ)
    (same : new ≡ middle) where
  -- the line was taken, whatever the replay has gone through
  abbrev AreTaken : Result Taken NoMemory → Replay Registers V ghosts o → Type 0
  AreTaken r now =
      IfOk r (λ what. (setting : Setting) (events : List Event) → HasReplayed o old setting events
      → Takes (replay_work setting) events line (HasReplayed o now setting) text what)

  taken_as : (kind : Taken) (r : Result Taken NoMemory) → IfOk r (λ what. what ≡ kind)
      → ((what : Taken) → r ≡ Ok what → (setting : Setting) (events : List Event) → HasReplayed o old setting events
      → Takes (replay_work setting) events line (HasReplayed o middle setting) text kind) → AreTaken r middle
  taken_as kind (Err why) is takes = tt
  taken_as kind (Ok what) is takes =
      λ setting events replayed. subst (λ (w : Taken). Takes (replay_work setting) events line (HasReplayed o middle setting) text w) (sym is)
      (takes what refl setting events replayed)

  on_ok : {P : Type 0} (r : Result Taken NoMemory) (what : Taken) → r ≡ Ok what → OnOk r P → P
  on_ok {P = P} r what is holds = subst (λ (s : Result Taken NoMemory). OnOk s P) is holds

  pub taken_accepted : (u : Unit {0}) (went : Result (Unit {0}) ReplayFault) → went ≡ Ok u → IfOk result (λ what. what ≡ taken.Accepted)
      → OnOk result (text ≡ lines_in middle) → IfErr (event_of_line line) (λ why. went ≡ Err (fault.Line why))
      → IfOk (event_of_line line) (λ e. (s : Setting) (run : List (NodeStep Registers)) → StandsFor ghosts o old s run
      → IfSome (refusal s (steps_of run) e) (λ why. went ≡ Err (fault.Apply why)))
      → IfOk (event_of_line line) (λ e. (s : Setting) (run : List (NodeStep Registers)) → StandsFor ghosts o old s run → IsStepped ghosts o middle s run e)
      → AreTaken result new
  taken_accepted u went is accepted put wrong refused stepped =
      subst (AreTaken result) (sym same)
      (taken_as taken.Accepted result accepted
      (λ what ok setting events replayed. accepts o setting events old middle line text replayed went u is wrong refused stepped
      (λ s run stands. on_ok result what ok put ∙ stands.tells.lines)))

  pub taken_refused : (why : ReplayFault) → IfOk result (λ what. what ≡ taken.Refused) → OnOk result (HasReason why text)
      → ((s : Setting) (run : List (NodeStep Registers)) → StandsFor ghosts o old s run
      → StandsFor ghosts o middle s run × IsLineFault why s (steps_of run) line) → AreTaken result new
  taken_refused why refused put kept =
      subst (AreTaken result) (sym same)
      (taken_as taken.Refused result refused (λ what ok setting events replayed. by why (on_ok result what ok put) kept setting events replayed))
    where
      by : (w : ReplayFault) → HasReason w text
          → ((s : Setting) (run : List (NodeStep Registers)) → StandsFor ghosts o old s run
          → StandsFor ghosts o middle s run × IsLineFault w s (steps_of run) line) → (setting : Setting) (events : List Event)
          → HasReplayed o old setting events → Takes (replay_work setting) events line (HasReplayed o middle setting) text taken.Refused
      by (fault.Line f) reason keeps setting events replayed = refuses_line o setting events old middle line text replayed f keeps reason
      by (fault.Apply f) reason keeps setting events replayed = refuses_event o setting events old middle line text replayed f keeps reason
      by fault.Memory reason keeps setting events replayed = absurd reason

-- a line at the front of a text was taken
pub front_accepted : {V : Type 0} (o : observers.Ghosts V) (old middle new : Replay Registers V ghosts o) (line text : List ℕ) (e : Event) → new ≡ middle
    → event_of_line line ≡ Ok e → (u : Unit {0}) (went : Result (Unit {0}) ReplayFault) → went ≡ Ok u
    → ((s : Setting) (run : List (NodeStep Registers)) → StandsFor ghosts o old s run
    → IfSome (refusal s (steps_of run) e) (λ why. went ≡ Err (fault.Apply why)))
    → ((s : Setting) (run : List (NodeStep Registers)) → StandsFor ghosts o old s run → IsStepped ghosts o middle s run e) → text ≡ lines_in middle
    → (setting : Setting) (events : List Event) → HasReplayed o old setting events
    → Takes (replay_work setting) events line (HasReplayed o new setting) text taken.Accepted
front_accepted o old middle new line text e same is u went ok refused stepped put setting events replayed =
    subst (λ (r : Replay Registers _ ghosts o). Takes (replay_work setting) events line (HasReplayed o r setting) text taken.Accepted) (sym same)
    (accepts o setting events old middle line text replayed went u ok
    (subst (λ (r : Result Event LineFault). IfErr r (λ why. went ≡ Err (fault.Line why))) (sym is) tt)
    (subst (λ (r : Result Event LineFault). IfOk r (λ x. (s : Setting) (run : List (NodeStep Registers)) → StandsFor ghosts o old s run
    → IfSome (refusal s (steps_of run) x) (λ why. went ≡ Err (fault.Apply why)))) (sym is) refused)
    (subst (λ (r : Result Event LineFault). IfOk r (λ x. (s : Setting) (run : List (NodeStep Registers)) → StandsFor ghosts o old s run
    → IsStepped ghosts o middle s run x)) (sym is) stepped)
    (λ s run stands. put ∙ stands.tells.lines))
