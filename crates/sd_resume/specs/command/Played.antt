-- For which events a replay stands that goes through a text, and what a line comes to.
use Rattle.std.specs.Prelude.{◌≡◌, ◌<◌, ◌≤◌, ℕ, ◌+◌, ◌^◌, Bool, true, false, List, [], ◌∷◌, length, None, IfSome, Result, Ok, Err, codes}
use Rattle.sd_io.specs.outside.Shelves.{KeepsShelf}
use Rattle.sd_io.specs.declared.outside.shelf.Shelf as shelves
use Rattle.sd_device.specs.contracts.msg.observer.NoObserverObserver.TheImpl.{ghosts as nobody}
use Rattle.sd_sched.specs.declared.Event.{Event}
use Rattle.sd_sched.specs.Lines.{event_of_line}
use Rattle.sd_history.specs.World.{Setting}
use Rattle.sd_replay.specs.Devices.{HasReplayed, QuietReplay}
use Rattle.sd_io.specs.stream.Reader.{shelf_of, text_left, bytes_before, GoesPast}
use Rattle.sd_io.specs.declared.stream.buffer.Buffer.{Buffer}
use Rattle.sd_io.specs.declared.stream.reader.LineReader.{LineReader}
use Rattle.sd_files.specs.declared.Status.TheVariants.{Done, InputRefused}
use Rattle.sd_files.specs.declared.command_error.CommandError.TheVariants as ended
use Rattle.sd_files.specs.declared.planfiles.setup_error.SetupError.{SetupError}
use Rattle.sd_files.specs.declared.planfiles.setup_error.SetupError.TheVariants.{Answered, Stopped}
use Rattle.sd_files.specs.work.Steps.{Step, Next, Last, refused_step}
use Rattle.sd_files.specs.work.Works.{Work, reading, refused_line}
use Rattle.sd_resume.specs.command.Parts.{accepted, part_work}

-- the replay stands for a run of devices with these events, the newest first
abbrev pub HasPlayed : QuietReplay → Setting → List Event → Type 0
HasPlayed replay setting events = HasReplayed nobody replay setting events

-- each line of the text was accepted, and the replay has played them
pub record HasRead (word : List ℕ) (setting : Setting) (text : List ℕ) (replay : QuietReplay) : Type 0 where
  pub whole : (reading (part_work word setting) text).refused ≡ None
  pub played : HasPlayed replay setting (reading (part_work word setting) text).taken

-- the line was accepted, or not
abbrev pub IsTaken : (replay : QuietReplay) (setting : Setting) (events : List Event) (line : List ℕ) → Bool → Type 0
IsTaken replay setting events line true =
    (e : Event) × (accepted setting events (event_of_line line) ≡ Ok e) × HasPlayed replay setting (e ∷ events)
IsTaken replay setting events line false = (accepted setting events (event_of_line line) ≡ Err (codes "Refused")) × HasPlayed replay setting events

-- a command ends with this line, since an input is refused; or memory ran out
abbrev pub EndsWithLine : List ℕ → SetupError → Type 0
EndsWithLine line (Answered answer) = (answer.text.items ≡ line) × (answer.status ≡ InputRefused)
EndsWithLine line (Stopped (ended.Refused why)) = ⊥
EndsWithLine line (Stopped ended.Shelf) = ⊥
EndsWithLine line (Stopped ended.Memory) = Unit {0}

-- a command that is answered early is answered so
abbrev pub IsInputRefused : SetupError → Type 0
IsInputRefused (Answered answer) = answer.status ≡ InputRefused
IsInputRefused (Stopped why) = Unit {0}

-- what comes next in a text: an event that happened, the end, a refusal, or what stops a run
abbrev pub ComesTo : Work Event → Setting → QuietReplay → List Event → Step Event → Result Bool SetupError → Type 0
ComesTo work setting new events step (Ok true) = (e : Event) × (step ≡ Next e) × HasPlayed new setting (e ∷ events)
ComesTo work setting new events step (Ok false) = (step ≡ Last [] Done) × HasPlayed new setting events
ComesTo work setting new events step (Err (Answered answer)) =
    (why : List ℕ) × (step ≡ refused_step work events why) × (answer.text.items ≡ refused_line work (length events + 1) why) × (answer.status ≡ InputRefused)
ComesTo work setting new events step (Err (Stopped (ended.Refused why))) = ⊥
ComesTo work setting new events step (Err (Stopped ended.Shelf)) = Unit {0}
ComesTo work setting new events step (Err (Stopped ended.Memory)) = Unit {0}

-- of the work over a text of this name, after the events for which the replay stood
abbrev pub StepsOn : (word : List ℕ) (old new : QuietReplay) → Result Bool SetupError → Work Event → List Event → Step Event → Type 0
StepsOn word old new result work events step =
    (setting : Setting) → work ≡ part_work word setting → HasPlayed old setting events → ComesTo work setting new events step result

-- what taking a line leaves of the reader
pub record HasTakenLine {S : Type 0} (g : shelves.Ghosts S) (old new : LineReader S Buffer g) (result : Result Bool SetupError) : Type 0 where
  pub past : result ≡ Ok true → IfSome (text_left g old) (GoesPast (bytes_before old) (bytes_before new) (text_left g new))
  pub moves : result ≡ Ok true → bytes_before old < bytes_before new
  pub within : bytes_before new ≤ 2 ^ 32
  pub same_shelf : (shelf_of new).ghost_name ≡ (shelf_of old).ghost_name
  pub shelf : KeepsShelf g (result ≡ Err (Stopped ended.Shelf)) (shelf_of old).now (shelf_of new).now
