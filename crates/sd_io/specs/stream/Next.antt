-- The next line of a text.
use Rattle.std.specs.Prelude.{ℕ, List, [], ◌∷◌, Option, None, Some, take}
use Rattle.sd_io.specs.stream.Lines.{line_len}

-- the next line of a text, without its newline
abbrev pub next_of : List ℕ → Option (List ℕ)
next_of [] = None
next_of (byte ∷ bytes) = Some (take (line_len (byte ∷ bytes)) (byte ∷ bytes))
