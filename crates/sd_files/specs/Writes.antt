-- What is written of what was made.
use Rattle.std.specs.Prelude.{◌≡◌, ℕ, List, Option, Result, Ok, Err}
use Rattle.sd_io.specs.outside.Pieces.{AddsFront, AddsPieces, Pieces, piece_of}
use Rattle.sd_files.specs.Answering.{Allowed}
use Rattle.sd_files.specs.Reasons.{refusal_line}
use Rattle.sd_files.specs.declared.Status.{Status}
use Rattle.sd_files.specs.declared.Status.TheVariants.{InputRefused}
use Rattle.sd_files.specs.declared.command_error.Answer.{Answer}
use Rattle.sd_files.specs.declared.command_error.CommandError.{CommandError}
use Rattle.sd_files.specs.declared.command_error.CommandError.TheVariants as ended
use Rattle.sd_files.specs.declared.command_error.IoError.{IoError}
use Rattle.sd_files.specs.declared.command_error.IoError.TheVariants as stop

-- the pieces were added, each by one write; or the run was stopped, and where that was by the sink some front of them was
abbrev pub Adds : {T : Type 0} → Pieces → Option Pieces → Option Pieces → Result T IoError → Type 0
Adds pieces old new (Ok done) = AddsPieces old new pieces
Adds pieces old new (Err stop.Shelf) = new ≡ old
Adds pieces old new (Err stop.Sink) = AddsFront old new pieces
Adds pieces old new (Err stop.Memory) = new ≡ old

-- all of it is written by one write: such bytes with such a status, some front of them where the sink fails, and nothing where the run is stopped before
abbrev pub WritesOnce : Allowed → Option Pieces → Option Pieces → Result Status IoError → Type 0
WritesOnce Answers old new (Ok status) = (bytes : List ℕ) × Answers bytes status × AddsPieces old new (piece_of bytes)
WritesOnce Answers old new (Err stop.Shelf) = new ≡ old
WritesOnce Answers old new (Err stop.Sink) = (bytes : List ℕ) × (status : Status) × Answers bytes status × AddsFront old new (piece_of bytes)
WritesOnce Answers old new (Err stop.Memory) = new ≡ old

-- the bytes and the status of what was made, or of the file that is refused
abbrev pub HasOutput : Result Answer CommandError → List ℕ → Status → Type 0
HasOutput (Ok answer) bytes status = (bytes ≡ answer.text.items) × (status ≡ answer.status)
HasOutput (Err (ended.Refused why)) bytes status = (bytes ≡ refusal_line why) × (status ≡ InputRefused)
HasOutput (Err ended.Shelf) bytes status = ⊥
HasOutput (Err ended.Memory) bytes status = ⊥

-- what was made may be written, or the line of the file that is refused
abbrev pub IsAllowed : Allowed → Result Answer CommandError → Type 0
IsAllowed Answers (Ok answer) = Answers answer.text.items answer.status
IsAllowed Answers (Err (ended.Refused why)) = Answers (refusal_line why) InputRefused
IsAllowed Answers (Err ended.Shelf) = Unit {0}
IsAllowed Answers (Err ended.Memory) = Unit {0}
