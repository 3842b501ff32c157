-- How a line is printed.
use Rattle.std.specs.Prelude.{ℕ, List, [], ◌∷◌, ◌++◌}

-- the fields, parted by one space, and a newline
abbrev pub terminated : List (List ℕ) → List ℕ
terminated [] = 10 ∷ []
terminated (field ∷ []) = field ++ 10 ∷ []
terminated (field ∷ next ∷ others) = field ++ 32 ∷ terminated (next ∷ others)
