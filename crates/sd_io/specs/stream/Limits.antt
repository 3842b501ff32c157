-- What a call for the next line answers, by the limits of lines and texts.
use Rattle.std.specs.Prelude.{◌≡◌, ℕ, ◌+◌, ◌^◌, Bool, ◌&&◌, nat_le, nat_lt, List, length, Option, Result, Ok, Err, if◌then◌else◌, ⊤}
use Rattle.std.specs.Borrow.{Bor}
use Rattle.std.specs.Option.{option_copied}
use Rattle.sd_io.specs.declared.stream.faults.StreamFault.{StreamFault}
use Rattle.sd_io.specs.declared.stream.faults.StreamFault.TheVariants.{ReadFault, LongLine, Limit}
use Rattle.sd_io.specs.stream.Lines.{line_len}
use Rattle.sd_io.specs.stream.Next.{next_of}

-- the next 4097 bytes stand within the first 2 ^ 32 of the text, of which `before` bytes stand before them, and hold no newline
abbrev pub is_long : ℕ → List ℕ → Bool
is_long before text = nat_le (before + 4097) (2 ^ 32) && nat_lt 4096 (line_len text)

-- the text has more than 2 ^ 32 bytes, and its next line, newline included, does not end within the first 2 ^ 32
abbrev pub is_past : ℕ → List ℕ → Bool
is_past before text = nat_lt (2 ^ 32) (before + length text) && nat_lt (2 ^ 32) (before + line_len text + 1)

-- what the next line of the text that is left is, or why it is refused
unfoldable pub answer_of : ℕ → List ℕ → Result (Option (List ℕ)) StreamFault
answer_of before text = if is_long before text then Err LongLine else if is_past before text then Err Limit else Ok (next_of text)

-- a call answers what is expected, or that the outside failed
abbrev pub IsAnswerTo : Result (Option (List ℕ)) StreamFault → Result (Option (Bor (List ℕ))) StreamFault → Type 0
IsAnswerTo expected (Ok line) = expected ≡ Ok (option_copied line)
IsAnswerTo expected (Err ReadFault) = ⊤
IsAnswerTo expected (Err LongLine) = expected ≡ Err LongLine
IsAnswerTo expected (Err Limit) = expected ≡ Err Limit
