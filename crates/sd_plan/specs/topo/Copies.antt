-- Copies of the entries of a table.
use Rattle.std.specs.Prelude.{◌≡◌, ℕ, List, [], ◌∷◌, ◌++◌, String, string_bytes}
use Rattle.std.specs.declared.alloc.Global.{Global}
use Rattle.indexmap.specs.IndexMap.{IndexMap, hasher_of}

-- the second entry has the name of the first, and a copy of its value
abbrev pub IsCopy : {V : Type 0} → (V → V → Type 0) → String Global × V → String Global × V → Type 0
IsCopy same e c = (string_bytes c.0 ≡ string_bytes e.0) × same e.1 c.1

-- an entry with this name and a copy of the value goes last, and names are hashed as before
pub record AddsCopy {V S : Type 0} (same : V → V → Type 0) (old new : IndexMap (String Global) V S) (name : List ℕ) (value : V) : Type 0 where
  pub entry : String Global × V
  pub last : new.entries ≡ old.entries ++ entry ∷ []
  pub named : string_bytes entry.0 ≡ name
  pub copied : same value entry.1
  pub hasher : hasher_of new ≡ hasher_of old
