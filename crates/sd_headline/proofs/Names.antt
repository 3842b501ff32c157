-- The names of a network's things are plain words.
use Rattle.std.specs.Prelude.{◌≡◌, ℕ, ◌≤◌, true, false, ◌&&◌, List, [], ◌∷◌, length, nat_lt, nat_le, slice_get, Option, Some, None, IsTrue, refl}
use Rattle.std.specs.List.{list_all}
use Rattle.std.proofs.Common.{arith, sym, ◌∙◌}
use Rattle.std.proofs.lemmas.Bool.{and_parts, and_from, agree_below_at, true_from_ne_false, ltb-false}
use Rattle.sd_num.specs.Lists.{map_or}
use Rattle.sd_plan.specs.topo.Network.{Each, is_name_byte, is_name, name_at}
use Rattle.sd_headline.specs.Words.{is_plain}

above_space : (byte : ℕ) → is_name_byte byte ≡ true → nat_lt 32 byte ≡ true
above_space byte is =
    true_from_ne_false (nat_lt 32 byte) (λ low. let below : byte ≤ 32 = ltb-false 32 byte low in
    contradicts (sym is ∙ agree_below_at is_name_byte (λ b. false) 33 byte refl (omega (arith, below))))
  where
    contradicts : true ≡ false → ⊥
    contradicts same = cc

bytes_plain : (name : List ℕ) → list_all is_name_byte name ≡ true → is_plain name ≡ true
bytes_plain [] is = refl
bytes_plain (byte ∷ name) is =
    let parts = and_parts (is_name_byte byte) (list_all is_name_byte name) is in
    and_from (nat_lt 32 byte) (is_plain name) (above_space byte parts.0) (bytes_plain name parts.1)

pub name_plain : (name : List ℕ) → IsTrue (is_name name) → is_plain name ≡ true
name_plain name is = bytes_plain name (and_parts (nat_le 1 (length name) && nat_le (length name) 64) (list_all is_name_byte name) is).1

-- the name at a number, or none
pub named_plain : (names : List (List ℕ)) (n : ℕ) → Each (λ name. IsTrue (is_name name)) names → is_plain (name_at names n) ≡ true
named_plain names n is = by (slice_get names n) (λ name at. name_plain name (is n name at))
  where
    by : (o : Option (List ℕ)) → ((name : List ℕ) → o ≡ Some name → is_plain name ≡ true) → is_plain (map_or o [] (λ name. name)) ≡ true
    by None each = refl
    by (Some name) each = each name refl
