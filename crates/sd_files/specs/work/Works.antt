-- Texts that are read line by line: what is read of one, up to the first line that is refused, what is written for it, and the status.
use Rattle.std.specs.Prelude.{◌≡◌, ℕ, zero, suc, ◌+◌, ◌^◌, ◌&&◌, Bool, List, [], ◌∷◌, ◌++◌, length, nat_le, nat_lt, Option, None, Some, Result, Ok, Err, codes, decimal, if◌then◌else◌}
use Rattle.std.specs.List.{concat, list_any}
use Rattle.sd_num.specs.Texts.{text_of}
use Rattle.sd_io.specs.outside.Pieces.{Pieces, piece_of}
use Rattle.sd_io.specs.stream.Lines.{lines, after_line}
use Rattle.sd_files.specs.Answering.{Allowed}
use Rattle.sd_files.specs.declared.Status.{Status}
use Rattle.sd_files.specs.declared.Status.TheVariants.{InputRefused}

-- how the lines of a text are read, and what is written for them; E is what an accepted line gives
pub record Work (E : Type 0) : Type 0 where
  -- what the text is called where it is refused
  pub name : List ℕ
  -- what a line gives after what those before it gave, the newest first, or the words that say why it is refused
  pub says : List E → List ℕ → Result E (List ℕ)
  -- it ends the text
  pub ends : E → Bool
  -- what is written for it after those before it, by one write
  pub bytes : List E → E → List ℕ
  -- what is written at the end of the text, write by write, and the status
  pub last_pieces : List E → Pieces
  pub last_status : List E → Status

-- what is read of a text: what its lines gave up to the first that is refused, the newest first, and why that one is
pub record Reading (E : Type 0) : Type 0 where
  pub taken : List E
  pub refused : Option (List ℕ)

-- the text from its line after the first n on
abbrev pub text_behind : ℕ → List ℕ → List ℕ
text_behind zero text = text
text_behind (suc n) text = after_line (text_behind n text)

-- a line is refused for its length, or for that of the text: it begins after `start` of the text's `total` bytes
abbrev pub length_fault : ℕ → ℕ → List ℕ → Option (List ℕ)
length_fault total start line =
    if nat_le (start + 4097) (2 ^ 32) && nat_lt 4096 (length line) then Some (codes "LongLine")
    else if nat_lt (2 ^ 32) total && nat_lt (2 ^ 32) (start + length line + 1) then Some (codes "Limit")
    else None

-- what a line says, unless it is refused for a length
abbrev pub unless_too_long : {E : Type 0} → Option (List ℕ) → Result E (List ℕ) → Result E (List ℕ)
unless_too_long (Some why) said = Err why
unless_too_long None said = said

-- the reading ends with a refused line, and goes on after an accepted one
abbrev pub read_on : {E : Type 0} → Result E (List ℕ) → List E → (E → Reading E) → Reading E
read_on (Err why) taken next = record { taken = taken; refused = Some why }
read_on (Ok x) taken next = next x

module _ {E : Type 0} (work : Work E) where
  -- what a line gives after these, or why it is refused
  abbrev pub judged : ℕ → ℕ → List E → List ℕ → Result E (List ℕ)
  judged total start taken line = unless_too_long (length_fault total start line) (work.says taken line)

  -- of the lines from a place of the text on, after these; one of all must end the text
  unfoldable pub reading_from : ℕ → ℕ → List E → List (List ℕ) → Reading E
  reading_from total start taken [] = record { taken = taken; refused = if list_any work.ends taken then None else Some (codes "NoEnd") }
  reading_from total start taken (line ∷ others) =
      read_on (judged total start taken line) taken (λ x. reading_from total (start + length line + 1) (x ∷ taken) others)

  -- the reading of a text
  unfoldable pub reading : List ℕ → Reading E
  reading text = reading_from (length text) 0 [] (lines text)

  -- what is written for all that was taken
  unfoldable pub all_bytes : List E → List ℕ
  all_bytes [] = []
  all_bytes (x ∷ earlier) = all_bytes earlier ++ work.bytes earlier x

  -- the line that ends a run whose text is refused at its line n
  abbrev pub refused_line : ℕ → List ℕ → List ℕ
  refused_line n why = text_of (codes "input" ∷ work.name ∷ decimal n ∷ why ∷ [])

  -- what is written at the end: in place of a line that is refused, its refusal
  abbrev pub last_bytes : List E → Option (List ℕ) → List ℕ
  last_bytes taken None = concat (work.last_pieces taken)
  last_bytes taken (Some why) = refused_line (length taken + 1) why

  -- the status of a reading
  abbrev pub status_for : List E → Option (List ℕ) → Status
  status_for taken None = work.last_status taken
  status_for taken (Some why) = InputRefused

  -- all that is written for a reading
  abbrev pub written_for : Reading E → List ℕ
  written_for r = all_bytes r.taken ++ last_bytes r.taken r.refused

  -- by which writes: each step by one, and a step without lines by none
  unfoldable pub all_pieces : List E → Pieces
  all_pieces [] = []
  all_pieces (x ∷ earlier) = all_pieces earlier ++ piece_of (work.bytes earlier x)

  -- the last writes, in place of a line that is refused its refusal
  abbrev pub last_pieces_for : List E → Option (List ℕ) → Pieces
  last_pieces_for taken None = work.last_pieces taken
  last_pieces_for taken (Some why) = piece_of (refused_line (length taken + 1) why)

  -- all writes of a reading
  abbrev pub pieces_for : Reading E → Pieces
  pieces_for r = all_pieces r.taken ++ last_pieces_for r.taken r.refused

  -- the pieces are the writes of the text's reading
  abbrev pub InSteps : List ℕ → Pieces → Type 0
  InSteps text pieces = pieces ≡ pieces_for (reading text)

  -- what a run over a text writes and answers
  abbrev pub IsOutcome : List ℕ → Allowed
  IsOutcome text bytes status = (bytes ≡ written_for (reading text)) × (status ≡ status_for (reading text).taken (reading text).refused)

  -- what stands in the text from the line on at which it is refused
  abbrev pub refused_part : List ℕ → List ℕ
  refused_part text = text_behind (length (reading text).taken) text
