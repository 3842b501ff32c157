-- What a command leaves at the sink, whether it ended or was stopped.
use Rattle.std.specs.Prelude.{◌≡◌, ◌⊎◌, ℕ, Bool, true, false, All, List, [], ◌∷◌, ◌++◌, nat_eq, Option, None, Some, IsTrue}
use Rattle.sd_io.specs.outside.Pieces.{AddsFront, AddsPieces, Pieces}
use Rattle.sd_files.specs.Answering.{MayWrite}
use Rattle.sd_files.specs.declared.Status.{Status}
use Rattle.sd_files.specs.declared.command_error.IoError.{IoError}
use Rattle.sd_files.specs.declared.command_error.IoError.TheVariants as stop

-- whole lines: nothing, or what ends with a newline
abbrev pub are_lines : List ℕ → Bool
are_lines [] = true
are_lines (byte ∷ []) = nat_eq byte 10
are_lines (byte ∷ next ∷ bytes) = are_lines (next ∷ bytes)

-- the first of the pieces were added, each of which is whole lines
pub record WritesLines (old new : Option Pieces) (pieces : Pieces) : Type 0 where
  pub whole : Pieces
  pub others : Pieces
  pub are : pieces ≡ whole ++ others
  pub lines : All (λ piece. IsTrue (are_lines piece)) whole
  pub added : AddsPieces old new whole

-- what was added where memory was wanting or the shelf failed: nothing, or, by a command that writes step by step, the whole lines of its first steps
abbrev pub WritesPart : Bool → MayWrite → Option Pieces → Option Pieces → Type 0
WritesPart false Writes old new = new ≡ old
WritesPart true Writes old new = (new ≡ old) ⊎ ((pieces : Pieces) × (status : Status) × Writes pieces status × WritesLines old new pieces)

-- what a run leaves at its sink: all that it may write, where nothing stopped it; and where the sink did, some front of that
abbrev pub Leaves : Option IoError → Bool → MayWrite → Option Pieces → Option Pieces → Status → Type 0
Leaves None steps Writes old new status = (pieces : Pieces) × Writes pieces status × AddsPieces old new pieces
Leaves (Some stop.Sink) steps Writes old new status = (pieces : Pieces) × (answer : Status) × Writes pieces answer × AddsFront old new pieces
Leaves (Some stop.Shelf) steps Writes old new status = WritesPart steps Writes old new
Leaves (Some stop.Memory) steps Writes old new status = WritesPart steps Writes old new
