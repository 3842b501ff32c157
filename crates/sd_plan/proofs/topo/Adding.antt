-- One more named thing in a table, and the greatest delay of one more link.
use Rattle.std.proofs.Common.{◌≡◌, ℕ, zero, suc, ◌+◌, max, Bool, true, false, cond, ◌||◌, nat_eq, List, [], ◌∷◌, ◌++◌, length, map, take, subst, Some, refl, ap, sym, ◌∙◌, String, Global, string_bytes, length-append, add-one, arith}
use Rattle.std.specs.List.{list_any, slice_get, flat_map}
use Rattle.std.specs.Str.{bytes_eq}
use Rattle.std.specs.Map.{keys_of}
use Rattle.std.specs.Cmp.Lexicographic.{pointwise}
use Rattle.indexmap.specs.IndexMap.{IndexMap, index_map_len, insert_entry, hasher_of}
use Rattle.sd_num.specs.Lists.{greatest}
use Rattle.sd_plan.specs.declared.topo.LinkEntry.{LinkEntry}
use Rattle.sd_plan.specs.topo.Network.{Link}
use Rattle.sd_plan.specs.topo.Seen.{names_seen, link_seen, Adds}

-- two strings have the same bytes
abbrev pub same_string : String Global → String Global → Bool
same_string a b = pointwise nat_eq (string_bytes a) (string_bytes b)

-- a key whose bytes are none of the names goes last
pub inserted : {V : Type 0} (es : List (String Global × V)) (key : String Global) (v : V)
    → list_any (bytes_eq (string_bytes key)) (map string_bytes (keys_of es)) ≡ false
    → insert_entry same_string es key v ≡ es ++ (key, v) ∷ []
inserted [] key v none = refl
inserted {V} (e ∷ es) key v none = by (bytes_eq (string_bytes key) (string_bytes e.0)) none (inserted es key v)
  where
    by : (b : Bool) → (b || list_any (bytes_eq (string_bytes key)) (map string_bytes (keys_of es))) ≡ false
        → (list_any (bytes_eq (string_bytes key)) (map string_bytes (keys_of es)) ≡ false → insert_entry same_string es key v ≡ es ++ (key, v) ∷ [])
        → (cond b ((e.0, v) ∷ es) (e ∷ insert_entry same_string es key v)) ≡ (e ∷ es) ++ (key, v) ∷ []
    by true none rest = cc
    by false none rest = ap (λ (l : List (String Global × V)). e ∷ l) (rest none)

-- a key with the bytes of a new name goes last
pub added : {V S : Type 0} (old new : IndexMap (String Global) V S) (key : String Global) (name : List ℕ) (v : V)
    → list_any (bytes_eq name) (names_seen old) ≡ false → string_bytes key ≡ name
    → new.entries ≡ insert_entry same_string old.entries key v → hasher_of new ≡ hasher_of old → Adds old new name v
added old new key name v none named is hasher = record {
  key = key;
  named = named;
  last = is ∙ inserted old.entries key v (subst (λ (n : List ℕ). list_any (bytes_eq n) (names_seen old) ≡ false) (sym named) none);
  hasher = hasher;
}

-- one more entry makes the table longer by one
pub added_len : {V S : Type 0} (old new : IndexMap (String Global) V S) (name : List ℕ) (v : V) → Adds old new name v
    → index_map_len new ≡ index_map_len old + 1
added_len old new name v adds = ap length adds.last ∙ length-append old.entries ((adds.key, v) ∷ [])

-- the delays of some links
abbrev pub delays : List Link → List ℕ
delays links = flat_map (λ link. link.entry.max ∷ link.entry.back_max ∷ []) links

-- the greatest delay with one more link
pub longest_more : (es : List (String Global × LinkEntry)) (i : ℕ) (v : LinkEntry) → slice_get (map (λ e. e.1) es) i ≡ Some v
    → greatest (delays (take (i + 1) (map link_seen es))) ≡ max (max (greatest (delays (take i (map link_seen es)))) v.max) v.back_max
longest_more [] i v at = cc
longest_more (e ∷ es) zero v at = let same : e.1 ≡ v = cc in rw (← same) (omega arith)
longest_more (e ∷ es) (suc i) v at =
    let rest = longest_more es i v at in
    rw (add-one (suc i)) (let more = rw (add-one i) at rest in omega (arith, more))
