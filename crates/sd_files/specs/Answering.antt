-- What a run that reads its files whole may write and answer.
use Rattle.std.specs.Prelude.{◌≡◌, ℕ, List, Result, Ok, Err}
use Rattle.std.specs.List.{concat}
use Rattle.sd_io.specs.outside.Pieces.{Pieces, piece_of}
use Rattle.sd_files.specs.Reasons.{refusal_line}
use Rattle.sd_files.specs.declared.Status.{Status}
use Rattle.sd_files.specs.declared.Status.TheVariants.{InputRefused}
use Rattle.sd_files.specs.declared.command_error.Refusal.{Refusal}

-- what may be written, with its status
abbrev pub Allowed : Type 1
Allowed = List ℕ → Status → Type 0

-- what may be written for what a file says, or the line of its refusal
abbrev pub After : {X : Type 0} → Result X Refusal → (X → Allowed) → Allowed
After (Ok x) Then bytes status = Then x bytes status
After (Err why) Then bytes status = (bytes ≡ refusal_line why) × (status ≡ InputRefused)

-- the writes by which something may be written, with its status
abbrev pub MayWrite : Type 1
MayWrite = Pieces → Status → Type 0

-- all of it by one write
abbrev pub AtOnce : Pieces → Type 0
AtOnce pieces = pieces ≡ piece_of (concat pieces)

-- what may be written, by such writes
abbrev pub InWrites : (Pieces → Type 0) → Allowed → MayWrite
InWrites Cuts Answers pieces status = Answers (concat pieces) status × Cuts pieces

-- after a file: by the writes for what it says, or by one where it is refused
abbrev pub WritesAfter : {X : Type 0} → Result X Refusal → (X → Pieces → Type 0) → Pieces → Type 0
WritesAfter (Ok x) Cuts pieces = Cuts x pieces
WritesAfter (Err why) Cuts pieces = AtOnce pieces
