-- Names need no escapes.
use Rattle.std.proofs.Common.{◌≡◌, ◌≢◌, ℕ, ◌≤◌, true, ◌&&◌, nat_le, List, [], ◌∷◌, ◌++◌, map, length, Option, Some, None, option_map, IsTrue, refl, ap, ap₂, ◌∙◌, arith}
use Rattle.std.specs.List.{list_all, slice_get}
use Rattle.std.proofs.lemmas.Bool.{and_parts}
use Rattle.std.proofs.lemmas.Bool.Decides.{nat_tests}
use Rattle.std.proofs.lemmas.Option.{slice_get-map}
use Rattle.json.specs.Print.{escape}
use Rattle.json.proofs.Printed.Strings.{escape_byte_plain}
use Rattle.serde_json.specs.Written.{compact_text}
use Rattle.sd_num.specs.Lists.{map_or, at_place}
use Rattle.sd_plan.specs.topo.Network.{Network, Device, Link, Each, is_name, is_name_byte, name_at, device_names, link_names}
use Rattle.sd_plan.specs.topo.Limits.{IsNetwork}
use Rattle.sd_plantext.specs.Printed.{quoted}
use Rattle.sd_plan.specs.topo.Network.{device_name, link_name}
use Rattle.sd_plantext.specs.PrintedTree.{device_data, link_data}

-- a byte of a name is no quote, no backslash and no control byte
no_quote : (x : ℕ) → is_name_byte x ≡ true → x ≢ 34
no_quote x h e = grind (arith, nat_tests)

no_backslash : (x : ℕ) → is_name_byte x ≡ true → x ≢ 92
no_backslash x h e = grind (arith, nat_tests)

no_control : (x : ℕ) → is_name_byte x ≡ true → 32 ≤ x
no_control x h = grind (arith, nat_tests)

plain_bytes : (xs : List ℕ) → list_all is_name_byte xs ≡ true → escape xs ≡ xs
plain_bytes [] h = refl
plain_bytes (x ∷ xs) h =
    let (first, rest) = and_parts (is_name_byte x) (list_all is_name_byte xs) h in
    ap₂ (λ a b. a ++ b) (escape_byte_plain x (no_quote x first) (no_backslash x first) (no_control x first)) (plain_bytes xs rest)

plain_name : (name : List ℕ) → is_name name ≡ true → escape name ≡ name
plain_name name good = let (lengths, bytes) = and_parts (nat_le 1 (length name) && nat_le (length name) 64) (list_all is_name_byte name) good in
    plain_bytes name bytes

plain_at : (names : List (List ℕ)) (n : ℕ) → Each (λ name. IsTrue (is_name name)) names → escape (name_at names n) ≡ name_at names n
plain_at names n good = by (slice_get names n) (λ name at. good n name at)
  where
    by : (o : Option (List ℕ)) → ((name : List ℕ) → o ≡ Some name → is_name name ≡ true) → escape (map_or o [] (λ name. name)) ≡ map_or o [] (λ name. name)
    by None named = refl
    by (Some name) named = plain_name name (named name refl)

-- the name of a thing at a place
name_mapped : {A : Type 0} (f : A → List ℕ) (xs : List A) (i : ℕ) → name_at (map f xs) i ≡ at_place xs i [] f
name_mapped {A = A} f xs i = ap (λ o. map_or o [] (λ name. name)) (slice_get-map f xs i) ∙ by (slice_get xs i)
  where
    by : (o : Option A) → map_or (option_map f o) [] (λ name. name) ≡ map_or o [] f
    by None = refl
    by (Some x) = refl

-- a device's name as it is printed
pub device_quoted : (net : Network) (d : ℕ) → IsNetwork net → compact_text (device_data net d) ≡ quoted (device_name net d)
device_quoted net d law =
    ap (λ (t : List ℕ). 34 ∷ (t ++ 34 ∷ [])) (plain_at (device_names net) d law.names.0 ∙ name_mapped (λ (device : Device). device.name) net.devices d)

-- a link's
pub link_quoted : (net : Network) (l : ℕ) → IsNetwork net → compact_text (link_data net l) ≡ quoted (link_name net l)
link_quoted net l law =
    ap (λ (t : List ℕ). 34 ∷ (t ++ 34 ∷ [])) (plain_at (link_names net) l law.names.1 ∙ name_mapped (λ (link : Link). link.name) net.links l)
