-- The lines of a text.
use Rattle.std.specs.Prelude.{ℕ, ◌+◌, ◌==◌, nat_eq, List, [], ◌∷◌, drop, if◌then◌else◌}

-- how many bytes stand before the first newline, or all of them
abbrev pub line_len : List ℕ → ℕ
line_len [] = 0
line_len (byte ∷ bytes) = if byte == 10 then 0 else line_len bytes + 1

-- the text after its next line
abbrev pub after_line : List ℕ → List ℕ
after_line text = drop (line_len text + 1) text

-- a byte before the first line
abbrev pub with_front : ℕ → List (List ℕ) → List (List ℕ)
with_front byte [] = (byte ∷ []) ∷ []
with_front byte (line ∷ others) = (byte ∷ line) ∷ others

-- the lines of a text, without their newlines; the last may lack its newline
abbrev pub lines : List ℕ → List (List ℕ)
lines [] = []
lines (byte ∷ bytes) = if nat_eq byte 10 then [] ∷ lines bytes else with_front byte (lines bytes)
