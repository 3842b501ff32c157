-- The line of a bound, by what is printed in it.
use Rattle.std.specs.Prelude.{ℕ, List, [], ◌∷◌, ◌++◌, ◌≤◌, length, Option, Some, None, codes, decimal}
use Rattle.sd_num.specs.Texts.{text_of}
use Rattle.sd_drill_text.specs.declared.lines.Named.{Named}

-- the line of a domain's kind and name, a device's name and its bound
abbrev pub line_of : List ℕ → List ℕ → List ℕ → Option ℕ → List ℕ
line_of kind name device (Some w) = text_of (codes "bound" ∷ kind ∷ name ∷ device ∷ decimal w ∷ [])
line_of kind name device None = text_of (codes "nobound" ∷ kind ∷ name ∷ device ∷ [])

-- what begins the lines of a domain, from their first word on
abbrev pub front_of : List ℕ → List ℕ → List ℕ → List ℕ
front_of word kind name = word ++ 32 ∷ kind ++ 32 ∷ name ++ 32 ∷ []

-- a line by the fronts of its domain, for a device with a bound and for one with none
abbrev pub line_behind : List ℕ → List ℕ → List ℕ → Option ℕ → List ℕ
line_behind bound_front nobound_front device (Some w) = bound_front ++ device ++ 32 ∷ decimal w ++ 10 ∷ []
line_behind bound_front nobound_front device None = nobound_front ++ device ++ 10 ∷ []

-- the names fit into a line
abbrev pub IsShort : Named → Type 0
IsShort named = (length named.kind.now ≤ 6) × (length named.name.now ≤ 64)
