-- What a command leaves at its sink that writes once, or may write more.
use Rattle.std.proofs.Common.{ℕ, true, false, List, Option, Result, Ok, Err, inl, inr, sym, ap, subst}
use Rattle.sd_io.specs.outside.Pieces.{Pieces, piece_of}
use Rattle.sd_io.proofs.outside.Adding.{concat_piece}
use Rattle.sd_files.specs.Answering.{AtOnce, InWrites, Allowed, MayWrite}
use Rattle.sd_files.specs.Writes.{IsAllowed, HasOutput, WritesOnce}
use Rattle.sd_files.specs.declared.Status.{Status}
use Rattle.sd_files.specs.declared.command_error.Answer.{Answer}
use Rattle.sd_files.specs.declared.command_error.CommandError.{CommandError}
use Rattle.sd_files.specs.declared.command_error.CommandError.TheVariants as ended
use Rattle.sd_files.specs.declared.command_error.IoError.{IoError}
use Rattle.sd_files.specs.declared.command_error.IoError.TheVariants as stop
use Rattle.sd_files.specs.work.Leaving.{WritesPart}
use Rattle.sd_files.specs.work.Ending.{LeavesAt}

-- what may be written is written by one write
pub at_once : (Writes : Allowed) (bytes : List ℕ) (status : Status) → Writes bytes status → InWrites AtOnce Writes (piece_of bytes) status
at_once Writes bytes status written =
    (subst (λ (b : List ℕ). Writes b status) (sym (concat_piece bytes)) written, ap piece_of (sym (concat_piece bytes)))

part_more : (Writes More : MayWrite) (old new : Option Pieces) → ((pieces : Pieces) (status : Status) → Writes pieces status → More pieces status)
    → WritesPart true Writes old new → WritesPart true More old new
part_more Writes More old new more (inl kept) = inl kept
part_more Writes More old new more (inr (pieces, status, written, lines)) = inr (pieces, status, more pieces status written, lines)

-- a run that may write more
pub leaves_more : (Writes More : MayWrite) (old new : Option Pieces) (result : Result Status IoError)
    → ((pieces : Pieces) (status : Status) → Writes pieces status → More pieces status) → LeavesAt true Writes old new result → LeavesAt true More old new result
leaves_more Writes More old new (Ok status) more (pieces, written, added) = (pieces, more pieces status written, added)
leaves_more Writes More old new (Err stop.Sink) more (pieces, status, written, front) = (pieces, status, more pieces status written, front)
leaves_more Writes More old new (Err stop.Shelf) more part = part_more Writes More old new more part
leaves_more Writes More old new (Err stop.Memory) more part = part_more Writes More old new more part

-- what was made and told may be written
pub told : (Writes : Allowed) (made : Result Answer CommandError) (bytes : List ℕ) (status : Status) → IsAllowed Writes made → HasOutput made bytes status
    → Writes bytes status
told Writes (Ok answer) bytes status makes (text, answered) =
    subst (λ (b : List ℕ). Writes b status) (sym text) (subst (Writes answer.text.items) (sym answered) makes)
told Writes (Err (ended.Refused why)) bytes status makes (text, answered) = rw (text, answered) makes
told Writes (Err ended.Shelf) bytes status makes tells = absurd tells
told Writes (Err ended.Memory) bytes status makes tells = absurd tells

-- by a command that writes once, whatever it is asked for
pub leaves_once : (Writes : Allowed) (made : Result Answer CommandError) (old new : Option Pieces) (result : Result Status IoError) → IsAllowed Writes made
    → WritesOnce (HasOutput made) old new result → LeavesAt false (InWrites AtOnce Writes) old new result
leaves_once Writes made old new (Ok status) makes (bytes, tells, added) =
    (piece_of bytes, at_once Writes bytes status (told Writes made bytes status makes tells), added)
leaves_once Writes made old new (Err stop.Shelf) makes kept = kept
leaves_once Writes made old new (Err stop.Sink) makes (bytes, status, tells, front) =
    (piece_of bytes, status, at_once Writes bytes status (told Writes made bytes status makes tells), front)
leaves_once Writes made old new (Err stop.Memory) makes kept = kept

-- a command that writes once is one that writes in steps
pub once_in_steps : (Writes : MayWrite) (old new : Option Pieces) (result : Result Status IoError) → LeavesAt false Writes old new result
    → LeavesAt true Writes old new result
once_in_steps Writes old new (Ok status) leaves = leaves
once_in_steps Writes old new (Err stop.Shelf) kept = inl kept
once_in_steps Writes old new (Err stop.Sink) leaves = leaves
once_in_steps Writes old new (Err stop.Memory) kept = inl kept
