-- Printed lines.
use Rattle.std.specs.Prelude.{ℕ, List, [], ◌∷◌, ◌++◌}
use Rattle.std.specs.List.{join_with_byte}

-- words parted by a space, and a newline
abbrev pub text_of : List (List ℕ) → List ℕ
text_of words = join_with_byte 32 words ++ 10 ∷ []
