-- Lines of logs by reference, and what of their merge is settled.
use Rattle.std.specs.Prelude.{ℕ, ◌+◌, Bool, true, ◌&&◌, List, [], ◌∷◌, ◌++◌, nat_le, nat_lt, if◌then◌else◌}
use Rattle.sd_record.specs.merge.Merging as merging

-- a line of the log of a number, as it stands there, without its newline
pub record LogLine : Type 0 where
  pub log : ℕ
  pub reference : ℕ
  pub bytes : List ℕ

-- its reference
abbrev pub line_at : LogLine → ℕ
line_at x = x.reference

-- several logs as one: by reference, and of equal references those of the earlier log come first
abbrev pub merge_all : List (List LogLine) → List LogLine
merge_all all = merging.merge_all line_at all

-- the line comes before all that the log of a number brings from a reference on
abbrev pub precedes : (number from : ℕ) → LogLine → Bool
precedes number from x = if nat_lt number x.log then nat_lt x.reference from else nat_le x.reference from

-- the line is settled: no log, of those from a number on, brings anything before it; each brings nothing before a reference
abbrev pub settled_by : (number : ℕ) → (froms : List ℕ) → LogLine → Bool
settled_by number [] x = true
settled_by number (from ∷ froms) x = precedes number from x && settled_by (number + 1) froms x

-- lines with their newlines
abbrev pub text_of_lines : List LogLine → List ℕ
text_of_lines [] = []
text_of_lines (x ∷ xs) = (x.bytes ++ 10 ∷ []) ++ text_of_lines xs
