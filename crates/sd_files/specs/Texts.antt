-- The texts that a run finds under the names of its files.
use Rattle.std.specs.Prelude.{ℕ, List, [], Option, unwrap_or}

-- a text under each name
abbrev pub Texts : Type 0
Texts = List ℕ → List ℕ

-- those of a shelf: a name that it does not hold has the empty text
abbrev pub texts_of : (List ℕ → Option (List ℕ)) → Texts
texts_of held name = unwrap_or (held name) []
