-- What the step that comes next in a text does, whatever work is done.
use Rattle.std.specs.Prelude.{◌≡◌, ℕ, ◌+◌, List, ◌∷◌, length, IfOk, IfSome, IsTrue, Option, None, Result, Ok, Err}
use Rattle.sd_io.specs.outside.Causes.{RisesFor}
use Rattle.sd_io.specs.outside.Pieces.{Pieces}
use Rattle.sd_io.specs.declared.outside.shelf.Shelf as shelves
use Rattle.sd_io.specs.declared.outside.sink.Sink as sinks
use Rattle.sd_io.specs.stream.Lines.{lines}
use Rattle.sd_io.specs.stream.Reader.{text_left, bytes_before}
use Rattle.sd_io.specs.declared.stream.buffer.Buffer.{Buffer}
use Rattle.sd_io.specs.declared.stream.reader.LineReader.{LineReader}
use Rattle.sd_files.specs.Statuses.{is_among}
use Rattle.sd_files.specs.Writes.{Adds}
use Rattle.sd_files.specs.declared.Status.{Status}
use Rattle.sd_files.specs.declared.Status.TheVariants.{InputRefused}
use Rattle.sd_files.specs.declared.command_error.IoError.{IoError}
use Rattle.sd_files.specs.declared.command_error.IoError.TheVariants as stop
use Rattle.sd_files.specs.declared.work.LineWork as works
use Rattle.sd_files.specs.declared.work.progress.Progress.{Progress}
use Rattle.sd_files.specs.work.Comes.{HasMadeStep, HasTaken}
use Rattle.sd_files.specs.work.Progresses.{HasAccepted}
use Rattle.sd_files.specs.work.Steps.{Step, step_of, step_pieces}
use Rattle.sd_files.specs.work.Works.{Work}

-- it holds of the next step of the text that is left, if that is told
abbrev pub HoldsNext : {E : Type 0} → (Work E → List E → Step E → Type 0) → Option (List ℕ) → ℕ → Type 0
HoldsNext {E = E} P left before = IfSome left (λ text. (w : Work E) (xs : List E) → P w xs (step_of w (before + length text) before xs (lines text)))

-- a step was made
abbrev pub MakesStep : {E : Type 0} → (Stood Stands : Work E → List E → Type 0) → Result (Option Status) IoError → Work E → List E → Step E → Type 0
MakesStep Stood Stands result w xs step = Stood w xs → HasMadeStep step xs (Stands w) result

-- what a step writes was added
abbrev pub AddsStep : {E T : Type 0} → (Stood : Work E → List E → Type 0) → Option Pieces → Option Pieces → Result T IoError → Work E → List E → Step E
    → Type 0
AddsStep Stood old new result w xs step = Stood w xs → Adds (step_pieces w xs step) old new result

-- the next step was made
abbrev pub MakesNext : {E : Type 0} → Option (List ℕ) → ℕ → (Stood Stands : Work E → List E → Type 0) → Result (Option Status) IoError → Type 0
MakesNext left before Stood Stands result = HoldsNext (MakesStep Stood Stands result) left before

-- what the next step writes was added
abbrev pub AddsNext : {E T : Type 0} → Option (List ℕ) → ℕ → (Stood : Work E → List E → Type 0) → Option Pieces → Option Pieces → Result T IoError → Type 0
AddsNext left before Stood old new result = HoldsNext (AddsStep Stood old new result) left before

-- what comes next in the reader's text was taken: its step was made and written
pub record HasTakenNext {S O W E : Type 0} (g : shelves.Ghosts S) (h : sinks.Ghosts O) (k : works.Ghosts W E) (from to : LineReader S Buffer g)
    (old new : Progress W) (before after : O) (result : Result (Option Status) IoError) : Type 0 where
  pub makes : MakesNext (text_left g from) (bytes_before from) (HasAccepted k old) (HasAccepted k new) result
  pub writes : AddsNext (text_left g from) (bytes_before from) (HasAccepted k old) (h.written before) (h.written after) result
  pub counts : result ≡ Ok None → new.taken ≡ old.taken + 1
  pub gives : IfOk result (λ last. IfSome last (λ status. IsTrue (is_among (InputRefused ∷ k.gives) status)))
  pub reader : HasTaken g from result to
  pub sink : RisesFor (result ≡ Err stop.Sink) (h.faults before) (h.faults after)
