-- What is told of the text of a name, where the texts are told.
use Rattle.std.specs.Prelude.{◌≡◌, ℕ, List, [], Option, None, Some, unwrap_or, ⊤}

-- what is told of the text of a name: a name that is not held has the empty text
abbrev pub RestIs : Option (List ℕ → Option (List ℕ)) → List ℕ → Option (List ℕ) → Type 0
RestIs None name rest = ⊤
RestIs (Some held) name None = ⊥
RestIs (Some held) name (Some bytes) = bytes ≡ unwrap_or (held name) []
