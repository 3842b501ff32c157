-- That a replay which takes a line goes on as the work of `replay` says.
use Rattle.std.proofs.Common.{◌≡◌, ℕ, Bool, List, [], ◌∷◌, Option, Some, None, Result, Ok, Err, refl, sym, ap, ◌∙◌, subst}
use Rattle.std.specs.Prelude.{IfErr, IfOk, IfSome, ◌||◌}
use Rattle.std.specs.List.{list_any}
use Rattle.sd_device.specs.declared.registers.Registers.{Registers}
use Rattle.sd_device.specs.contracts.device.DeviceNode.TheImpl.{ghosts}
use Rattle.sd_device.specs.declared.msg.observer.Observer as observers
use Rattle.sd_sched.specs.declared.Event.{Event}
use Rattle.sd_sched.specs.declared.LineFault.{LineFault}
use Rattle.sd_sched.specs.Events.{is_end_event}
use Rattle.sd_sched.specs.Lines.{event_of_line}
use Rattle.sd_history.specs.declared.ApplyFault.{ApplyFault}
use Rattle.sd_history.specs.World.{Setting}
use Rattle.sd_history.specs.Steps.{Step, seen_of, events_of}
use Rattle.sd_history.specs.Nodes.{NodeStep, steps_of}
use Rattle.sd_history.specs.Chronicle.{chronicle}
use Rattle.sd_history.specs.Refusals.{refusal, after_end}
use Rattle.sd_history.specs.Text.{bytes_of}
use Rattle.sd_replay.specs.declared.Tally.{Tally}
use Rattle.sd_replay.specs.declared.faults.ReplayFault.{ReplayFault}
use Rattle.sd_replay.specs.declared.faults.ReplayFault.TheVariants as fault
use Rattle.sd_replay.specs.declared.replay.Replay.{Replay}
use Rattle.sd_replay.specs.Devices.{HasReplayed}
use Rattle.sd_replay.specs.Replaying.{StandsFor, IsStepped, IsLineFault}
use Rattle.sd_replay.specs.Tallies.{tally_of}
use Rattle.sd_replay.proofs.Kept.{devices_keep_chronicle, not_refused, replayed_next, went_on}
use Rattle.sd_files.specs.work.Taking.{Takes}
use Rattle.sd_files.specs.declared.work.Taken.TheVariants as taken
use Rattle.sd_commands.specs.replay.Reasons.{line_reason, apply_name}
use Rattle.sd_commands.specs.replay.Replays.{accepted, replay_work, unless_refused}

-- the end of a history shows in its events
ends_as : (steps : List Step) → after_end (seen_of steps) ≡ list_any is_end_event (events_of steps)
ends_as [] = refl
ends_as (s ∷ earlier) = ap (λ (b : Bool). is_end_event s.seen.event || b) (ends_as earlier)

module _ {V : Type 0} (o : observers.Ghosts V) (setting : Setting) (events : List Event) where
  -- the steps of a replay are the chronicle of its events
  pub chronicled : (replay : Replay Registers V ghosts o) (replayed : HasReplayed o replay setting events) → steps_of replayed.run ≡ chronicle setting events
  chronicled replay replayed = (devices_keep_chronicle o replay setting events replayed).chronicle

  pub over_as : (replay : Replay Registers V ghosts o) (over : Bool)
      → ((s : Setting) (run : List (NodeStep Registers)) → StandsFor ghosts o replay s run → over ≡ after_end (seen_of (steps_of run)))
      → HasReplayed o replay setting events → over ≡ list_any is_end_event events
  over_as replay over says replayed = says setting replayed.run replayed.stands ∙ ends_as (steps_of replayed.run) ∙ ap (list_any is_end_event) replayed.happened

  pub tally_as : (replay : Replay Registers V ghosts o) (tally : Tally)
      → ((s : Setting) (run : List (NodeStep Registers)) → StandsFor ghosts o replay s run → tally ≡ tally_of s (steps_of run))
      → HasReplayed o replay setting events → tally ≡ tally_of setting (chronicle setting events)
  tally_as replay tally says replayed = says setting replayed.run replayed.stands ∙ ap (tally_of setting) (chronicled replay replayed)

  -- where nothing was accepted the replay stands for the same events
  pub stays : (old new : Replay Registers V ghosts o)
      → ((s : Setting) (run : List (NodeStep Registers)) → StandsFor ghosts o old s run → StandsFor ghosts o new s run)
      → HasReplayed o old setting events → HasReplayed o new setting events
  stays old new kept replayed = record { run = replayed.run; stands = kept setting replayed.run replayed.stands; happened = replayed.happened }

  module _ (old new : Replay Registers V ghosts o) (line printed : List ℕ) (replayed : HasReplayed o old setting events) where
    pub accepts : (result : Result (Unit {0}) ReplayFault) (u : Unit {0}) → result ≡ Ok u → IfErr (event_of_line line) (λ why. result ≡ Err (fault.Line why))
        → IfOk (event_of_line line) (λ e. (s : Setting) (run : List (NodeStep Registers)) → StandsFor ghosts o old s run
        → IfSome (refusal s (steps_of run) e) (λ why. result ≡ Err (fault.Apply why)))
        → IfOk (event_of_line line) (λ e. (s : Setting) (run : List (NodeStep Registers)) → StandsFor ghosts o old s run → IsStepped ghosts o new s run e)
        → ((s : Setting) (run : List (NodeStep Registers)) → StandsFor ghosts o new s run → printed ≡ bytes_of s (steps_of run))
        → Takes (replay_work setting) events line (HasReplayed o new setting) printed taken.Accepted
    accepts result u went wrong refused stepped prints = by (event_of_line line) refl wrong refused stepped
      where
        by : (said : Result Event LineFault) → event_of_line line ≡ said → IfErr said (λ why. result ≡ Err (fault.Line why))
            → IfOk said (λ e. (s : Setting) (run : List (NodeStep Registers)) → StandsFor ghosts o old s run
            → IfSome (refusal s (steps_of run) e) (λ why. result ≡ Err (fault.Apply why)))
            → IfOk said (λ e. (s : Setting) (run : List (NodeStep Registers)) → StandsFor ghosts o old s run → IsStepped ghosts o new s run e)
            → Takes (replay_work setting) events line (HasReplayed o new setting) printed taken.Accepted
        by (Err why) is wrong refused stepped = absurd (went_on result u (fault.Line why) went wrong)
        by (Ok e) is wrong refused stepped =
            let more : HasReplayed o new setting (e ∷ events) =
            replayed_next o old new setting events e replayed (stepped setting replayed.run replayed.stands) in
            let none : refusal setting (chronicle setting events) e ≡ None =
            subst (λ (steps : List Step). refusal setting steps e ≡ None) (chronicled old replayed)
            (not_refused (refusal setting (steps_of replayed.run) e) result u went (refused setting replayed.run replayed.stands)) in
            let steps : steps_of more.run ≡ chronicle setting (e ∷ events) = (devices_keep_chronicle o new setting (e ∷ events) more).chronicle in (
              e,
              ap (accepted setting events) is ∙ ap (λ (r : Option ApplyFault). unless_refused r e) none,
              prints setting more.run more.stands
                  ∙ ap (bytes_of setting) steps,
              more,
            )

    pub refuses_line : (why : LineFault)
        → ((s : Setting) (run : List (NodeStep Registers)) → StandsFor ghosts o old s run
        → StandsFor ghosts o new s run × IsLineFault (fault.Line why) s (steps_of run) line)
        → printed ≡ line_reason why → Takes (replay_work setting) events line (HasReplayed o new setting) printed taken.Refused
    refuses_line why refused prints =
        let now = refused setting replayed.run replayed.stands in
        (ap (accepted setting events) now.1 ∙ ap Err (sym prints), stays old new (λ s run stands. (refused s run stands).0) replayed)

    pub refuses_event : (why : ApplyFault)
        → ((s : Setting) (run : List (NodeStep Registers)) → StandsFor ghosts o old s run
        → StandsFor ghosts o new s run × IsLineFault (fault.Apply why) s (steps_of run) line)
        → printed ≡ apply_name why → Takes (replay_work setting) events line (HasReplayed o new setting) printed taken.Refused
    refuses_event why refused prints =
        let now = refused setting replayed.run replayed.stands in
        let found : refusal setting (chronicle setting events) now.1.0 ≡ Some why =
        subst (λ (steps : List Step). refusal setting steps now.1.0 ≡ Some why) (chronicled old replayed) now.1.2 in (
          ap (accepted setting events) now.1.1 ∙ ap (λ (r : Option ApplyFault). unless_refused r now.1.0) found ∙ ap Err (sym prints),
          stays old new (λ s run stands. (refused s run stands).0) replayed,
        )
