-- What is taken of a text line by line, and how far a run has come.
use Rattle.std.specs.Prelude.{◌≡◌, ◌<◌, ◌≤◌, ℕ, ◌+◌, ◌^◌, List, ◌∷◌, length, Option, None, Some, IfSome, Result, Ok, Err}
use Rattle.sd_io.specs.outside.Pieces.{AddsPieces, Pieces}
use Rattle.sd_io.specs.outside.Shelves.{KeepsShelf}
use Rattle.sd_io.specs.declared.outside.shelf.Shelf.{Ghosts}
use Rattle.sd_io.specs.stream.Lines.{lines}
use Rattle.sd_io.specs.stream.Reader.{shelf_of, text_left, bytes_before, IsNear, GoesPast}
use Rattle.sd_io.specs.declared.stream.reader.LineReader.{LineReader}
use Rattle.sd_io.specs.declared.stream.buffer.Buffer.{Buffer}
use Rattle.sd_files.specs.declared.Status.{Status}
use Rattle.sd_files.specs.declared.command_error.IoError.{IoError}
use Rattle.sd_files.specs.declared.command_error.IoError.TheVariants as stop
use Rattle.sd_files.specs.work.Works.{Work, all_pieces, reading, reading_from, text_behind}
use Rattle.sd_files.specs.work.Steps.{Step, Next, Last}

-- a step was made: after a line that was accepted one more is held, and the last step has its status
abbrev pub HasMadeStep : {E : Type 0} → Step E → (xs : List E) → (Stands : List E → Type 0) → Result (Option Status) IoError → Type 0
HasMadeStep {E = E} step xs Stands (Ok None) = (x : E) × (step ≡ Next x) × Stands (x ∷ xs)
HasMadeStep step xs Stands (Ok (Some status)) = (pieces : Pieces) × (step ≡ Last pieces status)
HasMadeStep step xs Stands (Err why) = Unit {0}

-- what taking a line leaves of the reader; `Ok None` is a line that was accepted
pub record HasTaken {S : Type 0} (g : Ghosts S) (old : LineReader S Buffer g) (result : Result (Option Status) IoError) (new : LineReader S Buffer g) : Type 0
  where
    pub past : result ≡ Ok None → IfSome (text_left g old) (GoesPast (bytes_before old) (bytes_before new) (text_left g new))
    pub moves : result ≡ Ok None → bytes_before old < bytes_before new
    -- always
    pub within : bytes_before new ≤ 2 ^ 32
    pub near : IsNear (text_left g old) (g.rest (shelf_of new).now)
    pub same_shelf : (shelf_of new).ghost_name ≡ (shelf_of old).ghost_name
    pub shelf : KeepsShelf g (result ≡ Err stop.Shelf) (shelf_of old).now (shelf_of new).now

-- how far a run over a text has come: this many lines were taken, each was accepted, and what is written for them was written
pub record HasCome {S E : Type 0} (g : Ghosts S) (work : Work E) (Stands : List E
    → Type 0) (text : List ℕ) (reader : LineReader S Buffer g) (old new : Option Pieces) : Type 0 where
  pub taken : List E
  pub stands : Stands taken
  pub left : text_left g reader ≡ Some (text_behind (length taken) text)
  pub total : bytes_before reader + length (text_behind (length taken) text) ≡ length text
  pub further : reading work text ≡ reading_from work (length text) (bytes_before reader) taken (lines (text_behind (length taken) text))
  pub written : AddsPieces old new (all_pieces work taken)
