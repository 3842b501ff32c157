-- Names are short.
use Rattle.std.specs.Prelude.{◌≡◌, ℕ, ◌≤◌, ◌&&◌, List, [], length, nat_le, slice_get, Option, Some, None, IsTrue, refl}
use Rattle.std.specs.List.{list_all}
use Rattle.std.proofs.Common.{arith}
use Rattle.std.proofs.lemmas.Bool.{and_parts, leb-true}
use Rattle.sd_num.specs.Lists.{map_or}
use Rattle.sd_plan.specs.topo.Network.{Network, device_names, is_name, is_name_byte}
use Rattle.sd_plan.specs.topo.Limits.{IsNetwork}
use Rattle.sd_history.specs.Text.{device_name}

short : (name : List ℕ) → IsTrue (is_name name) → length name ≤ 64
short name is =
    leb-true (length name) 64
    (and_parts (nat_le 1 (length name)) (nat_le (length name) 64)
    (and_parts (nat_le 1 (length name) && nat_le (length name) 64) (list_all is_name_byte name) is).0).1

-- the name of a device has at most 64 bytes
pub name_short : (net : Network) (d : ℕ) → IsNetwork net → length (device_name net d) ≤ 64
name_short net d is = by (slice_get (device_names net) d) (λ name at. short name (is.names.0 d name at))
  where
    by : (o : Option (List ℕ)) → ((name : List ℕ) → o ≡ Some name → length name ≤ 64) → length (map_or o [] (λ name. name)) ≤ 64
    by None each = omega arith
    by (Some name) each = each name refl
