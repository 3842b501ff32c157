-- That what goes through a schedule does the work of `replay`, and of `order`.
use Rattle.std.proofs.Common.{◌≡◌, ℕ, ◌<◌, Bool, List, ◌∷◌, ◌++◌, take, Option, Some, None, Result, Ok, Err, refl, sym, ap, ◌∙◌, subst, length}
use Rattle.std.specs.Prelude.{IfOk, nat_lt, ◌||◌}
use Rattle.std.specs.List.{list_any}
use Rattle.sd_num.specs.declared.NoMemory.{NoMemory}
use Rattle.sd_device.specs.declared.registers.Registers.{Registers}
use Rattle.sd_device.specs.contracts.device.DeviceNode.TheImpl.{ghosts as device}
use Rattle.sd_device.specs.msg.Observed.{ReportAt}
use Rattle.sd_device.specs.declared.msg.observer.Observer as observers
use Rattle.sd_sched.specs.declared.Event.{Event}
use Rattle.sd_sched.specs.Events.{is_end_event}
use Rattle.sd_history.specs.World.{Setting}
use Rattle.sd_history.specs.Steps.{Step}
use Rattle.sd_history.specs.Chronicle.{chronicle, next_step}
use Rattle.sd_history.specs.Nodes.{steps_of}
use Rattle.sd_history.specs.Lines.{reports}
use Rattle.sd_history.specs.Text.{done_bytes}
use Rattle.sd_replay.specs.declared.replay.Replay.{Replay}
use Rattle.sd_replay.specs.Devices.{HasReplayed}
use Rattle.sd_replay.specs.Tallies.{shows_trouble, tally_of}
use Rattle.sd_replay.specs.wait.Printed.{waits_line}
use Rattle.sd_replay.specs.wait.Standing.{StandsFor}
use Rattle.sd_replay.specs.wait.Waits.{tally_of as waits_of}
use Rattle.sd_replay.specs.declared.wait.WaitTally.{WaitTally}
use Rattle.sd_io.specs.outside.Pieces.{piece_of}
use Rattle.sd_files.specs.declared.Status.{Status}
use Rattle.sd_files.specs.work.Taking.{Takes, TakesFront}
use Rattle.sd_files.specs.work.Works.{Work}
use Rattle.sd_files.specs.declared.work.Taken.{Taken}
use Rattle.sd_files.specs.declared.work.Taken.TheVariants as taken
use Rattle.sd_commands.specs.replay.Doing.{DoesOrder, DoesReplay}
use Rattle.sd_commands.specs.replay.Replays.{order_work, replay_work, status_if}
use Rattle.sd_commands.specs.replay.Telling.{latest_waits}
use Rattle.sd_commands.specs.contracts.replay.observer.WaitObserverObserver.TheImpl.{ghosts}
use Rattle.sd_commands.specs.declared.replay.order_work.OrderWork.{OrderWork}
use Rattle.sd_commands.specs.declared.replay.replay_work.ReplayWork.{ReplayWork}
use Rattle.sd_commands.specs.declared.replay.observer.WaitObserver.{WaitObserver}
use Rattle.sd_commands.proofs.replay.Reporting.{more_at, none_at}
use Rattle.sd_commands.proofs.replay.Stepping.{chronicled}

-- The work of `replay`

module _ {V : Type 0} (o : observers.Ghosts V) where
  as_replay : (new : ReplayWork V o) (line printed : List ℕ) (what : Taken) (work : Work Event) (xs : List Event) (setting : Setting) → work ≡ replay_work setting
      → Takes (replay_work setting) xs line (HasReplayed o new.replay setting) printed what → Takes work xs line (DoesReplay o new work) printed what
  as_replay new line printed taken.Accepted work xs setting is (e, says, prints, more) =
      subst (λ (w : Work Event). Takes w xs line (DoesReplay o new w) printed taken.Accepted) (sym is)
      (e, says, prints, record { setting = setting; is = refl; replayed = more })
  as_replay new line printed taken.Refused work xs setting is (says, stays) =
      subst (λ (w : Work Event). Takes w xs line (DoesReplay o new w) printed taken.Refused) (sym is)
      (says, record { setting = setting; is = refl; replayed = stays })

  -- a line was taken
  pub replay_takes : (old new : ReplayWork V o) (line printed : List ℕ) (result : Result Taken NoMemory)
      → IfOk result (λ what. (setting : Setting) (events : List Event) → HasReplayed o old.replay setting events
      → Takes (replay_work setting) events line (HasReplayed o new.replay setting) printed what)
      → IfOk result (λ what. (work : Work Event) (xs : List Event) → DoesReplay o old work xs → Takes work xs line (DoesReplay o new work) printed what)
  replay_takes old new line printed (Err why) takes = tt
  replay_takes old new line printed (Ok what) takes =
      λ work xs does. as_replay new line printed what work xs does.setting does.is (takes does.setting xs does.replayed)

  -- a line was taken at the front of a text, or none
  pub replay_takes_front : (old new : ReplayWork V o) (text printed : List ℕ) (result : Result (Option ℕ) NoMemory)
      → IfOk result (λ found. (setting : Setting) (events : List Event) → HasReplayed o old.replay setting events
      → TakesFront (replay_work setting) events text (HasReplayed o new.replay setting) printed found)
      → IfOk result (λ found. (work : Work Event) (xs : List Event) → DoesReplay o old work xs → TakesFront work xs text (DoesReplay o new work) printed found)
  replay_takes_front old new text printed (Err why) takes = tt
  replay_takes_front old new text printed (Ok None) takes =
      λ work xs does. record { setting = does.setting; is = does.is; replayed = takes does.setting xs does.replayed }
  replay_takes_front old new text printed (Ok (Some len)) takes =
      λ work xs does. as_replay new (take len text) printed taken.Accepted work xs does.setting does.is (takes does.setting xs does.replayed)

  pub replay_ends : (old : ReplayWork V o) (over : Bool)
      → ((setting : Setting) (events : List Event) → HasReplayed o old.replay setting events → over ≡ list_any is_end_event events)
      → (work : Work Event) (xs : List Event) → DoesReplay o old work xs
      → over ≡ list_any work.ends xs
  replay_ends old over says work xs does = subst (λ (w : Work Event). over ≡ list_any w.ends xs) (sym does.is) (says does.setting xs does.replayed)

  pub replay_last : (old : ReplayWork V o) (bytes : List ℕ)
      → ((setting : Setting) (events : List Event) → HasReplayed o old.replay setting events → bytes ≡ done_bytes (chronicle setting events))
      → (work : Work Event) (xs : List Event)
      → DoesReplay o old work xs → piece_of bytes ≡ work.last_pieces xs
  replay_last old bytes says work xs does =
      subst (λ (w : Work Event). piece_of bytes ≡ w.last_pieces xs) (sym does.is) (ap piece_of (says does.setting xs does.replayed))

  pub replay_status : (old : ReplayWork V o) (trouble : Bool) (status : Status) → status ≡ status_if trouble
      → ((setting : Setting) (events : List Event) → HasReplayed o old.replay setting events
      → trouble ≡ shows_trouble (tally_of setting (chronicle setting events))) → (work : Work Event) (xs : List Event) → DoesReplay o old work xs
      → status ≡ work.last_status xs
  replay_status old trouble status is says work xs does =
      subst (λ (w : Work Event). status ≡ w.last_status xs) (sym does.is) (is ∙ ap status_if (says does.setting xs does.replayed))

-- The work of `order`

module _ (setting : Setting) (xs : List Event) (line text printed : List ℕ) (middle new : Replay Registers WaitObserver device ghosts) (same : new ≡ middle) where
  -- a line was accepted, and its step has a report
  pub order_reports : (before after : ℕ) → before ≡ length (reports (chronicle setting xs))
      → ((events : List Event) → HasReplayed ghosts middle setting events → after ≡ length (reports (chronicle setting events))) → before < after
      → ((events : List Event) → HasReplayed ghosts middle setting events → printed ≡ text ++ latest_waits setting.net (reports (chronicle setting events)))
      → Takes (replay_work setting) xs line (HasReplayed ghosts middle setting) text taken.Accepted
      → Takes (order_work setting) xs line (HasReplayed ghosts new setting) printed taken.Accepted
  order_reports before after was is more adds (e, says, prints, replayed) =
      let less = subst (λ (n : ℕ). length (reports (chronicle setting xs)) < n) (is (e ∷ xs) replayed) (subst (λ (n : ℕ). n < after) was more) in (
        e,
        says,
        adds (e ∷ xs) replayed ∙ ap (λ (b : List ℕ). b ++ latest_waits setting.net (reports (chronicle setting (e ∷ xs)))) prints
            ∙ sym (more_at setting (chronicle setting (e ∷ xs)) (chronicle setting xs) (next_step setting (chronicle setting xs) e) refl less),
        subst (λ (r : Replay Registers WaitObserver device ghosts). HasReplayed ghosts r setting (e ∷ xs)) (sym same) replayed,
      )

-- and one without a report
pub order_silent : (setting : Setting) (xs : List Event) (line printed : List ℕ) (new : Replay Registers WaitObserver device ghosts) (before after : ℕ)
    → before ≡ length (reports (chronicle setting xs))
    → ((events : List Event) → HasReplayed ghosts new setting events → after ≡ length (reports (chronicle setting events))) → (before < after → ⊥)
    → Takes (replay_work setting) xs line (HasReplayed ghosts new setting) printed taken.Accepted
    → Takes (order_work setting) xs line (HasReplayed ghosts new setting) printed taken.Accepted
order_silent setting xs line printed new before after was is none (e, says, prints, replayed) =
    let less : length (reports (chronicle setting xs)) < length (reports (chronicle setting (e ∷ xs))) → ⊥ =
    λ more. none (subst (λ (n : ℕ). n < after) (sym was) (subst (λ (n : ℕ). length (reports (chronicle setting xs)) < n) (sym (is (e ∷ xs) replayed)) more)) in (
      e,
      says,
      prints
          ∙ sym (none_at setting (chronicle setting (e ∷ xs)) (chronicle setting xs) (next_step setting (chronicle setting xs) e) refl less),
      replayed,
    )

as_order : (new : OrderWork) (line printed : List ℕ) (what : Taken) (work : Work Event) (xs : List Event) (setting : Setting) → work ≡ order_work setting
    → Takes (order_work setting) xs line (HasReplayed ghosts new.replayed.replay setting) printed what → Takes work xs line (DoesOrder new work) printed what
as_order new line printed taken.Accepted work xs setting is (e, says, prints, more) =
    subst (λ (w : Work Event). Takes w xs line (DoesOrder new w) printed taken.Accepted) (sym is)
    (e, says, prints, record { setting = setting; is = refl; replayed = more })
as_order new line printed taken.Refused work xs setting is (says, stays) =
    subst (λ (w : Work Event). Takes w xs line (DoesOrder new w) printed taken.Refused) (sym is)
    (says, record { setting = setting; is = refl; replayed = stays })

-- a line was taken
pub order_takes : (old new : OrderWork) (line printed : List ℕ) (what : Taken)
    → ((setting : Setting) (events : List Event) → HasReplayed ghosts old.replayed.replay setting events
    → Takes (order_work setting) events line (HasReplayed ghosts new.replayed.replay setting) printed what) → (work : Work Event) (xs : List Event)
    → DoesOrder old work xs → Takes work xs line (DoesOrder new work) printed what
order_takes old new line printed what takes work xs does = as_order new line printed what work xs does.setting does.is (takes does.setting xs does.replayed)

-- none was
pub order_stays : (old new : OrderWork)
    → ((setting : Setting) (events : List Event) → HasReplayed ghosts old.replayed.replay setting events
    → HasReplayed ghosts new.replayed.replay setting events) → (work : Work Event) (xs : List Event) → DoesOrder old work xs → DoesOrder new work xs
order_stays old new stays work xs does = record { setting = does.setting; is = does.is; replayed = stays does.setting xs does.replayed }

pub order_ends : (old : OrderWork) (over : Bool)
    → ((setting : Setting) (events : List Event) → HasReplayed ghosts old.replayed.replay setting events → over ≡ list_any is_end_event events)
    → (work : Work Event) (xs : List Event) → DoesOrder old work xs
    → over ≡ list_any work.ends xs
order_ends old over says work xs does = subst (λ (w : Work Event). over ≡ list_any w.ends xs) (sym does.is) (says does.setting xs does.replayed)

-- what commit wait counts is of the reports of the history
pub waits_as : (replay : Replay Registers WaitObserver device ghosts) (tally : WaitTally)
    → ((told : List ReportAt) → StandsFor replay.observer.waits told → tally ≡ waits_of told) → (setting : Setting) (events : List Event)
    → HasReplayed ghosts replay setting events
    → tally ≡ waits_of (reports (chronicle setting events))
waits_as replay tally says setting events replayed =
    says (reports (steps_of replayed.run)) replayed.stands.told.waits
    ∙ ap (λ (steps : List Step). waits_of (reports steps)) (chronicled ghosts setting events replay replayed)

pub order_last : (old : OrderWork) (done waits : List ℕ) (tally : WaitTally) → waits ≡ waits_line tally
    → ((setting : Setting) (events : List Event) → HasReplayed ghosts old.replayed.replay setting events → done ≡ done_bytes (chronicle setting events))
    → ((told : List ReportAt) → StandsFor old.replayed.replay.observer.waits told → tally ≡ waits_of told) → (work : Work Event) (xs : List Event)
    → DoesOrder old work xs → piece_of done ++ piece_of waits ≡ work.last_pieces xs
order_last old done waits tally is says tells work xs does =
    let counted : tally ≡ waits_of (reports (chronicle does.setting xs)) = waits_as old.replayed.replay tally tells does.setting xs does.replayed in
    subst (λ (w : Work Event). piece_of done ++ piece_of waits ≡ w.last_pieces xs) (sym does.is)
    (ap (λ (b : List ℕ). piece_of b ++ piece_of waits) (says does.setting xs does.replayed)
    ∙ ap (λ (b : List ℕ). piece_of (done_bytes (chronicle does.setting xs)) ++ piece_of b) (is ∙ ap waits_line counted))

pub order_status : (old : OrderWork) (trouble : Bool) (status : Status) (tally : WaitTally) → status ≡ status_if (trouble || nat_lt 0 tally.disorders)
    → ((setting : Setting) (events : List Event) → HasReplayed ghosts old.replayed.replay setting events
    → trouble ≡ shows_trouble (tally_of setting (chronicle setting events)))
    → ((told : List ReportAt) → StandsFor old.replayed.replay.observer.waits told → tally ≡ waits_of told) → (work : Work Event) (xs : List Event)
    → DoesOrder old work xs → status ≡ work.last_status xs
order_status old trouble status tally is says tells work xs does =
    let counted : tally ≡ waits_of (reports (chronicle does.setting xs)) = waits_as old.replayed.replay tally tells does.setting xs does.replayed in
    subst (λ (w : Work Event). status ≡ w.last_status xs) (sym does.is)
    (is ∙ ap (λ (b : Bool). status_if (b || nat_lt 0 tally.disorders)) (says does.setting xs does.replayed)
    ∙ ap (λ (t : WaitTally). status_if (shows_trouble (tally_of does.setting (chronicle does.setting xs)) || nat_lt 0 t.disorders)) counted)
