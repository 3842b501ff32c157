-- What stands in each ring.
use Rattle.std.specs.Prelude.{◌≡◌, ℕ, zero, suc, ◌<◌, ◌≤◌, Bool, true, false, ◌&&◌, List, [], ◌∷◌, length, find, filter, nat_eq, Some}
use Rattle.std.proofs.Common.{refl, sym, ap, ◌∙◌, subst, arith, inl, inr}
use Rattle.std.proofs.lemmas.Bool.{and_parts, and_from, or_cases, or_left, false_from_ne_true, eqb-true, eq-eqb}
use Rattle.std.proofs.lemmas.Option.{same_Some}
use Rattle.sd_num.specs.Lists.{has, same_number}
use Rattle.sd_num.proofs.Places.{has_below, below_has, kept_parts, kept_from}
use Rattle.sd_num.proofs.Shared.{same_number-some, some-same_number}
use Rattle.sd_num.proofs.Distinct.{AreDistinct, few}
use Rattle.sd_plan.specs.topo.Network.{Network, device_numbers}
use Rattle.sd_plan.specs.declared.Absent.{Absent}
use Rattle.sd_planner.specs.Usable.{are_neighbours}
use Rattle.sd_planner.specs.Spreading.{ring}
use Rattle.sd_planner.proofs.Lists.{has_flat, flat_has, apart_filter, apart_flat, apart_below, none_nil, found_has, has_found}
use Rattle.sd_planner.proofs.Walks.{linked, steps, steps_some, no_steps, at_home, Nearer, nearer}

module _ (net : Network) (absent : Absent) (source : ℕ) (through : ℕ → Bool) where
  -- the devices of a ring that have this primary parent
  abbrev pub is_of : ℕ → ℕ → ℕ → Bool
  is_of n parent d = through d && same_number (steps net absent through source d) (suc n)
      && same_number (find (are_neighbours net absent d) (ring net absent source through n)) parent

  abbrev pub part_of : ℕ → ℕ → List ℕ
  part_of n parent = filter (is_of n parent) (device_numbers net)

  pub record IsInRing (n d : ℕ) : Type 0 where
    pub within : d < length net.devices
    pub passes : through d ≡ true
    pub steps_to : steps net absent through source d ≡ Some (suc n)
    pub parent : ℕ
    pub found : find (are_neighbours net absent d) (ring net absent source through n) ≡ Some parent
    pub has_parent : has (ring net absent source through n) parent ≡ true

  pub in_part : (n parent d : ℕ) → has (part_of n parent) d ≡ true
      → (d < length net.devices) × (through d ≡ true) × (steps net absent through source d ≡ Some (suc n))
      × (find (are_neighbours net absent d) (ring net absent source through n) ≡ Some parent)
  in_part n parent d there =
      let kept : (is_of n parent d ≡ true) × (has (device_numbers net) d ≡ true) = kept_parts (is_of n parent) (device_numbers net) d there in
      let parts : ((through d && same_number (steps net absent through source d) (suc n)) ≡ true)
      × (same_number (find (are_neighbours net absent d) (ring net absent source through n)) parent ≡ true) =
      and_parts (through d && same_number (steps net absent through source d) (suc n))
      (same_number (find (are_neighbours net absent d) (ring net absent source through n)) parent) kept.0 in
      let both : (through d ≡ true) × (same_number (steps net absent through source d) (suc n) ≡ true) =
      and_parts (through d) (same_number (steps net absent through source d) (suc n)) parts.0 in (
        below_has (length net.devices) d kept.1,
        both.0,
        same_number-some (steps net absent through source d) (suc n) both.1,
        same_number-some
            (find (are_neighbours net absent d) (ring net absent source through n)) parent parts.1,
      )

  pub in_ring : (n d : ℕ) → has (ring net absent source through (suc n)) d ≡ true → IsInRing n d
  in_ring n d there =
      let from : (parent : ℕ) × (has (ring net absent source through n) parent ≡ true) × (has (part_of n parent) d ≡ true) =
      has_flat (part_of n) (ring net absent source through n) d there in
      let parts : (d < length net.devices) × (through d ≡ true) × (steps net absent through source d ≡ Some (suc n))
      × (find (are_neighbours net absent d) (ring net absent source through n) ≡ Some from.0) = in_part n from.0 d from.2 in
      record { within = parts.0; passes = parts.1; steps_to = parts.2; parent = from.0; found = parts.3; has_parent = from.1 }

  from_nearer : (n d : ℕ) → d < length net.devices → through d ≡ true → steps net absent through source d ≡ Some (suc n)
      → (near : Nearer net absent through source n d)
      → has (ring net absent source through n) near.device ≡ true → has (ring net absent source through (suc n)) d ≡ true
  from_nearer n d within passes is near stands =
      let found : (p : ℕ) × (find (are_neighbours net absent d) (ring net absent source through n) ≡ Some p) =
      has_found (are_neighbours net absent d) (ring net absent source through n) near.device stands (linked net absent d near.device ∙ near.linked_to) in
      let first : (has (ring net absent source through n) found.0 ≡ true) × (are_neighbours net absent d found.0 ≡ true) =
      found_has (are_neighbours net absent d) (ring net absent source through n) found.0 found.1 in
      flat_has (part_of n) (ring net absent source through n) found.0 d first.0
      (kept_from (is_of n found.0) (device_numbers net) d
      (and_from (through d && same_number (steps net absent through source d) (suc n))
      (same_number (find (are_neighbours net absent d) (ring net absent source through n)) found.0)
      (and_from (through d) (same_number (steps net absent through source d) (suc n)) passes (some-same_number (steps net absent through source d) (suc n) is))
      (some-same_number (find (are_neighbours net absent d) (ring net absent source through n)) found.0 found.1))
      (has_below (length net.devices) d within))

  -- what is that many steps away stands in the ring
  pub ring_has : (n d : ℕ) → d < length net.devices → through d ≡ true → steps net absent through source d ≡ Some (suc n)
      → has (ring net absent source through (suc n)) d ≡ true
  ring_has zero d within passes is =
      let near : Nearer net absent through source 0 d = nearer net absent through source 0 d is in
      from_nearer 0 d within passes is near
      (or_left (nat_eq near.device source) false (eq-eqb near.device source (sym (no_steps net absent through source near.device near.steps_to))))
  ring_has (suc n) d within passes is =
      let near : Nearer net absent through source (suc n) d = nearer net absent through source (suc n) d is in
      from_nearer (suc n) d within passes is near
      (elim near.is_near [
        | inl same ↦ absurd (not_home n near.device same near.steps_to)
        | inr parts ↦ ring_has n near.device parts.0 parts.1 near.steps_to
      ])
    where
      not_home : (n e : ℕ) → source ≡ e → steps net absent through source e ≡ Some (suc n) → ⊥
      not_home n e same is =
          let found : (j : ℕ) × (j ≤ 0) × (steps net absent through source source ≡ Some j) =
          steps_some net absent through source source 0 (omega arith) (at_home net absent through 0 source) in
          let equal : found.0 ≡ suc n = same_Some found.0 (suc n) (sym found.2 ∙ ap (λ x. steps net absent through source x) same ∙ is) in
          omega (arith, found.1)

  -- none stands in a ring twice
  pub ring_apart : (n : ℕ) → AreDistinct (ring net absent source through n)
  ring_apart zero = (refl, tt)
  ring_apart (suc n) =
      apart_flat (part_of n) (λ d. find (are_neighbours net absent d) (ring net absent source through n)) (ring net absent source through n) (ring_apart n)
      (λ parent there. apart_filter (is_of n parent) (device_numbers net) (apart_below (length net.devices)))
      (λ parent d at there. (in_part n parent d there).3)

  -- Ring after ring there are other devices

  -- devices of this many rings, one of each
  record OneOfEach (n : ℕ) : Type 0 where
    devices : List ℕ
    count : length devices ≡ suc n
    apart : AreDistinct devices
    within : (x : ℕ) → has devices x ≡ true → x < length net.devices
    near : (x : ℕ) → has devices x ≡ true → (j : ℕ) × (j ≤ n) × (steps net absent through source x ≡ Some j)

  one_of_each : source < length net.devices → (n d : ℕ) → has (ring net absent source through n) d ≡ true → OneOfEach n
  one_of_each inside zero d there =
      record {
        devices = source ∷ [];
        count = omega arith;
        apart = (refl, tt);
        within = λ x is. subst (λ y. y < length net.devices) (sym (only x is)) inside;
        near = λ x is. subst (λ y. (j : ℕ) × (j ≤ 0) × (steps net absent through source y ≡ Some j)) (sym (only x is))
            (steps_some net absent through source source 0 (omega arith) (at_home net absent through 0 source));
      }
    where
      only : (x : ℕ) → has (source ∷ []) x ≡ true → x ≡ source
      only x is = elim (or_cases (nat_eq x source) false is) [ inl same ↦ eqb-true x source same | inr none ↦ cc ]
  one_of_each inside (suc n) d there =
      let in_it : IsInRing n d = in_ring n d there in
      let more : OneOfEach n = one_of_each inside n in_it.parent in_it.has_parent in
      record {
        devices = d ∷ more.devices;
        count = omega (arith, more.count);
        apart = (
          false_from_ne_true (has more.devices d) (λ at.
              let close : (j : ℕ) × (j ≤ n) × (steps net absent through source d ≡ Some j) = more.near d at in
              let same : close.0 ≡ suc n = same_Some close.0 (suc n) (sym close.2 ∙ in_it.steps_to) in
              omega (arith, close.1)),
          more.apart,
        );
        within = λ x is. elim (or_cases (nat_eq x d) (has more.devices x) is) [
          | inl same ↦ subst (λ y. y < length net.devices) (sym (eqb-true x d same)) in_it.within
          | inr later ↦ more.within x later
        ];
        near = λ x is. elim (or_cases (nat_eq x d) (has more.devices x) is) [
          | inl same ↦ (suc n, omega arith, ap (λ y. steps net absent through source y) (eqb-true x d same) ∙ in_it.steps_to)
          | inr later ↦ (let close : (j : ℕ) × (j ≤ n) × (steps net absent through source x ≡ Some j) = more.near x later in
              (close.0, omega (arith, close.1), close.2))
        ];
      }

  -- so there are fewer rings than devices
  pub no_ring : source < length net.devices → (n : ℕ) → length net.devices ≤ n → ring net absent source through n ≡ []
  no_ring inside n past =
      none_nil (ring net absent source through n) (λ d there.
      let each : OneOfEach n = one_of_each inside n d there in
      let room : length each.devices ≤ length net.devices = few each.devices (length net.devices) each.apart each.within in
      omega (arith, each.count))
