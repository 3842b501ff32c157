-- A replay of devices that was driven through a schedule.
use Rattle.std.specs.Prelude.{◌≡◌, List}
use Rattle.std.proofs.Common.{ap, ◌∙◌, subst}
use Rattle.std.proofs.Math.Logic.{∥∥₁_elim}
use Rattle.sd_device.specs.declared.registers.Registers.{Registers}
use Rattle.sd_device.specs.contracts.device.DeviceNode.TheImpl.{ghosts as device}
use Rattle.sd_device.specs.contracts.msg.observer.NoObserverObserver.TheImpl.{ghosts as nobody}
use Rattle.sd_sched.specs.declared.Event.{Event}
use Rattle.sd_sched.specs.declared.LineFault.{LineFault}
use Rattle.sd_history.specs.declared.ApplyFault.{ApplyFault}
use Rattle.sd_history.specs.World.{Setting}
use Rattle.sd_history.specs.Nodes.{NodeStep, steps_of}
use Rattle.sd_history.specs.Chronicle.{chronicle}
use Rattle.sd_history.proofs.Devices.{devices_run}
use Rattle.sd_fleet.specs.declared.Outcome.{Outcome}
use Rattle.sd_gen.specs.Driving.{Run, IsAccepted, IsRefused, HasHappened}
use Rattle.sd_replay.specs.declared.Tally.{Tally}
use Rattle.sd_replay.specs.declared.faults.ReplayFault.{ReplayFault}
use Rattle.sd_replay.specs.declared.faults.ReplayFault.TheVariants as fault
use Rattle.sd_replay.specs.Devices.{QuietReplay}
use Rattle.sd_replay.specs.Replaying as replays
use Rattle.sd_replay.specs.Standing.{HasRun}
use Rattle.sd_replay.specs.Tallies.{tally_of}
use Rattle.sd_gen.specs.command.CaseRuns.{StandsFor}
use Rattle.sd_gen.specs.declared.command.case_run.CaseRun.{CaseRun}

-- an event that the replay accepted
pub accepted : (new : CaseRun) (setting : Setting) (run : Run) (e : Event) (outcome : Outcome)
    → replays.IsSteppedTo device nobody new.replay setting run e outcome → IsAccepted StandsFor new setting run e outcome
accepted new setting run e outcome to =
    record { next = to.stepped.next; happens = to.stepped.happens; comes = to.comes; is_run = to.stepped.stands.made.is_run; stands = to.stepped.stands }

-- and one that it refused for a cause of the history
pub refused : (new : CaseRun) (setting : Setting) (run : Run) (e : Event) (what : ReplayFault) (why : ApplyFault) → what ≡ fault.Apply why
    → replays.StandsFor device nobody new.replay setting run × replays.IsFault what setting (steps_of run) e → IsRefused StandsFor new setting run e
refused new setting run e what why is (stands, said) =
    record { why = why; refused = subst (λ (f : ReplayFault). replays.IsFault f setting (steps_of run) e) is said; stands = stands }

-- it never answers that an event is no line
pub never_line : (old new : QuietReplay) (e : Event) (what : ReplayFault) (why : LineFault) → what ≡ fault.Line why
    → ∥ HasRun device nobody old.fleet old.monitors old.event_output old.observer ∥₁
    → ((s : Setting) (run : Run) → replays.StandsFor device nobody old s run
    → replays.StandsFor device nobody new s run × replays.IsFault what s (steps_of run) e) → ⊥
never_line old new e what why is there refused =
    ∥∥₁_elim there (λ x y. absurd x)
    (λ has. subst (λ (f : ReplayFault). replays.IsFault f has.setting (steps_of has.steps) e) is (refused has.setting has.steps has.stands).1)

-- its tally is that of the chronicle of its events
pub tally_as : (replayed : CaseRun) (tally : Tally)
    → ((s : Setting) (run : List (NodeStep Registers)) → replays.StandsFor device nobody replayed.replay s run → tally ≡ tally_of s (steps_of run))
    → (setting : Setting) (events : List Event) → HasHappened StandsFor replayed setting events → tally ≡ tally_of setting (chronicle setting events)
tally_as replayed tally says setting events happened =
    says setting happened.run happened.stands
    ∙ ap (tally_of setting) (devices_run setting happened.run happened.is_run ∙ ap (chronicle setting) happened.happened)
