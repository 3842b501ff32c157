-- Named texts, and what is left of the one that was begun.
use Rattle.std.specs.Str.{bytes_eq}
use Rattle.std.specs.Prelude.{ℕ, List, [], ◌∷◌, Option, None, Some, if◌then◌else◌, map, string_bytes, slice_get, unwrap_or, String, Vec}
use Rattle.std.specs.Option.{option_map}
use Rattle.std.specs.declared.alloc.Global.{Global}

-- the names and the bytes that a shelf has, the first of each name counts
abbrev pub Files : Type 0
Files = List (List ℕ × List ℕ)

-- the bytes under a name
abbrev pub text_in : Files → List ℕ → Option (List ℕ)
text_in [] name = None
text_in (f ∷ fs) name = if bytes_eq f.0 name then Some f.1 else text_in fs name

-- a file as a pair of its name's bytes and its own
abbrev pub file_seen : String Global × Vec ℕ Global → List ℕ × List ℕ
file_seen f = (string_bytes f.0, f.1.items)

-- files as pairs of bytes, in their order
abbrev pub files_seen : List (String Global × Vec ℕ Global) → Files
files_seen fs = map file_seen fs

-- the text at a place, and none past the end
abbrev pub text_at : Files → ℕ → List ℕ
text_at fs i = unwrap_or (option_map (λ f. f.1) (slice_get fs i)) []

-- what is seen of texts in memory: all of them, and what is left of the one that is read
pub record Held : Type 0 where
  pub files : Files
  pub rest : List ℕ
