-- What a reader has left, and what each call leaves.
use Rattle.std.specs.Prelude.{◌≡◌, ◌≢◌, ℕ, ◌+◌, ◌^◌, ◌<◌, ◌≤◌, List, length, Option, None, Some, Ok, [], slice_range, IfSome, IfOk, IfErr, OnOk, OnErr, OnSome, Result, Err, ⊤}
use Rattle.std.specs.Result.{IsErrOf}
use Rattle.std.specs.Borrow.{Fml, RattleType, Bor, MutBor}
use Rattle.std.specs.Io.BufRead.{Rests}
use Rattle.std.specs.Io.KnownBytes.{prepend_known, Keeps}
use mir.Syntax.{named}
use Rattle.sd_io.specs.outside.Shelves.{KeepsShelf}
use Rattle.sd_io.specs.declared.outside.shelf.Shelf.{Ghosts}
use Rattle.sd_io.specs.stream.Lines.{after_line}
use Rattle.sd_io.specs.stream.Limits.{answer_of}
use Rattle.sd_io.specs.stream.Buffered.{buffered}
use Rattle.sd_io.specs.declared.stream.faults.StreamFault.{StreamFault}
use Rattle.sd_io.specs.declared.stream.faults.StreamFault.TheVariants.{ReadFault, LongLine, Limit}
use Rattle.sd_io.specs.declared.stream.reader.LineReader.{LineReader}
use Rattle.sd_io.specs.declared.stream.buffer.Buffer.{Buffer}
use Rattle.sd_io.specs.contracts.stream.reader.LineReader.{the_row}
use Rattle.sd_io.specs.contracts.stream.buffer.Buffer.{the_row as buffer_row}

-- the borrow of the shelf that a reader reads
abbrev pub shelf_of : {S B : Type 0} {g : Ghosts S} → LineReader S B g → MutBor S
shelf_of r = r.shelf

-- the text that is left: what waits in the buffer, and what the shelf has left
abbrev pub text_left : {S : Type 0} (g : Ghosts S) → LineReader S Buffer g → Option (List ℕ)
text_left g r = prepend_known (buffered r.buffer) (g.rest (shelf_of r).now)

-- how many bytes of the text stand before those that are left
abbrev pub bytes_before : {S : Type 0} {g : Ghosts S} → LineReader S Buffer g → ℕ
bytes_before r = r.before

-- what the bytes in the buffer alone say of the next line: a refusal of theirs is one of the whole text
abbrev pub buffered_answer : {S : Type 0} {g : Ghosts S} → LineReader S Buffer g → Result (Option (List ℕ)) StreamFault
buffered_answer r = answer_of (bytes_before r) (buffered r.buffer)

-- of a text that was left, at most 8192 bytes are no longer in the shelf's rest
abbrev pub IsNear : Option (List ℕ) → Option (List ℕ) → Type 0
IsNear None rest = ⊤
IsNear (Some text) None = ⊥
IsNear (Some text) (Some rest) = length text ≤ length rest + 8192

-- the line at a place of the buffer
abbrev pub line_at : List ℕ → Option (ℕ × ℕ) → Option (List ℕ)
line_at bytes None = None
line_at bytes (Some p) = Some (slice_range bytes p.0 p.1)

-- a place of the buffer holds the line that is expected, or the call is refused as is expected, or the outside failed
abbrev pub AnswersAt : Result (Option (List ℕ)) StreamFault → List ℕ → Result (Option (ℕ × ℕ)) StreamFault → Type 0
AnswersAt expected bytes (Ok place) = expected ≡ Ok (line_at bytes place)
AnswersAt expected bytes (Err ReadFault) = ⊤
AnswersAt expected bytes (Err LongLine) = expected ≡ Err LongLine
AnswersAt expected bytes (Err Limit) = expected ≡ Err Limit

-- of a text that was left the next line was passed, and the count of the bytes before goes on from one number to another
pub record GoesPast (old new : ℕ) (left : Option (List ℕ)) (text : List ℕ) : Type 0 where
  pub after : left ≡ Some (after_line text)
  pub count : new + length (after_line text) ≡ old + length text

-- no line was passed: the same text is left, after as many bytes
abbrev pub StaysAt : {S : Type 0} (g : Ghosts S) → LineReader S Buffer g → LineReader S Buffer g → Type 0
StaysAt g old new = Keeps (text_left g old) (text_left g new) × (bytes_before new ≡ bytes_before old)

-- what a call leaves once its line is no longer borrowed
pub record HasRead {S : Type 0} (g : Ghosts S) (old : LineReader S Buffer g) (result : Result (Option (Bor (List ℕ))) StreamFault)
    (new : LineReader S Buffer g) : Type 0 where
  pub same_shelf : (shelf_of new).ghost_name ≡ (shelf_of old).ghost_name
  -- where a line or the end of the text was answered
  pub past : OnOk result (IfSome (text_left g old) (GoesPast (bytes_before old) (bytes_before new) (text_left g new)))
  pub moves : IfOk result (λ line. OnSome line (bytes_before old < bytes_before new))
  -- where no line was lent
  pub kept : OnErr result (StaysAt g old new)
  pub settled : IfErr result (λ f. f ≢ ReadFault → buffered_answer new ≡ Err f)
  -- always
  pub near : IsNear (text_left g old) (g.rest (shelf_of new).now)
  pub within : bytes_before new ≤ 2 ^ 32
  pub shelf : KeepsShelf g (IsErrOf result ReadFault) (shelf_of old).now (shelf_of new).now

-- once the line that a call lent is no longer borrowed, the reader is as `HasRead` says
abbrev pub LeavesReader : (S : RattleType) (g : Ghosts S.Denot) → MutBor (LineReader S.Denot Buffer g) → Result (Option (Bor (List ℕ))) StreamFault → Fml
LeavesReader S g reader result = Rests (the_row (record { mir = named 0; lft = [] }) S buffer_row g) reader (HasRead g reader.now result)
