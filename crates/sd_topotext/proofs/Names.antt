-- A name that is sought in a table by hashing, and in the list of the table's names.
use Rattle.std.proofs.Common.{◌≡◌, ℕ, Bool, true, false, cond, is_some, ◌||◌, List, [], ◌∷◌, map, Some, refl, String, Global, string_bytes}
use Rattle.std.specs.List.{list_any}
use Rattle.std.specs.Str.{bytes_eq}
use Rattle.std.specs.Map.{keys_of, lookup}
use Rattle.indexmap.specs.IndexMap.{IndexMap, get_by, index_of_by}
use Rattle.sd_plan.specs.topo.Seen.{names_seen}
use Rattle.sd_plan.specs.topo.Network.{number_in}
use Rattle.sd_plan.proofs.topo.Tables.{position-map}

-- some key passes where a look-up finds something
found : {V : Type 0} (test : List ℕ → Bool) (es : List (String Global × V))
    → list_any test (map string_bytes (keys_of es)) ≡ is_some (lookup (λ k. test (string_bytes k)) es)
found test [] = refl
found test (e ∷ es) = by (test (string_bytes e.0)) (found test es)
  where
    by : (b : Bool) → list_any test (map string_bytes (keys_of es)) ≡ is_some (lookup (λ k. test (string_bytes k)) es)
        → (b || list_any test (map string_bytes (keys_of es))) ≡ is_some (cond b (Some e.1) (lookup (λ k. test (string_bytes k)) es))
    by true rest = refl
    by false rest = rest

-- a name is among those of the table where the table has it as a key
pub taken : {V S : Type 0} (name : List ℕ) (table : IndexMap (String Global) V S)
    → list_any (bytes_eq name) (names_seen table) ≡ is_some (get_by (λ k. bytes_eq name (string_bytes k)) table)
taken name table = found (bytes_eq name) table.entries

-- the number of a name is the place of its key
pub named_at : {V S : Type 0} (name : List ℕ) (table : IndexMap (String Global) V S)
    → number_in (names_seen table) name ≡ index_of_by (λ k. bytes_eq name (string_bytes k)) table
named_at name table = position-map string_bytes (bytes_eq name) (keys_of table.entries)
