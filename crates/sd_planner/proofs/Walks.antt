-- Steps from a source: how they grow by one link more at their far end.
use Rattle.std.specs.Prelude.{◌≡◌, ℕ, zero, suc, ◌+◌, ◌<◌, ◌≤◌, Bool, true, false, ◌&&◌, ◌||◌, length, nat_eq, Option, Some, ◌⊎◌}
use Rattle.std.specs.List.{list_any}
use Rattle.std.proofs.Common.{refl, sym, ap, ◌∙◌, subst, arith, inl, inr}
use Rattle.std.proofs.lemmas.Bool.{and_parts, and_from, or_cases, or_left, or_right, both_ways, cases_lt, eqb-true, eq-eqb}
use Rattle.sd_num.specs.Lists.{has}
use Rattle.sd_num.proofs.Places.{has_below, below_has}
use Rattle.sd_plan.specs.topo.Network.{Network, joins, device_numbers, link_numbers, link_of}
use Rattle.sd_plan.specs.topo.Joined.{joined_within}
use Rattle.sd_plan.specs.declared.Absent.{Absent}
use Rattle.sd_planner.specs.Usable.{is_usable, are_neighbours}
use Rattle.sd_planner.specs.Spreading.{steps_from}
use Rattle.sd_planner.proofs.Elements.{any_found}
use Rattle.sd_planner.proofs.Lists.{any_has, has_any, least_found, found_least}
use Rattle.sd_plan.proofs.Numbered.{found_passes}

pub or_swap : (a b : Bool) → (a || b) ≡ (b || a)
or_swap true true = refl
or_swap true false = refl
or_swap false true = refl
or_swap false false = refl

-- a link joins its ends in either order
pub joins_swap : (net : Network) (l d e : ℕ) → joins net l d e ≡ joins net l e d
joins_swap net l d e =
    or_swap (nat_eq (link_of net l).end_a d && nat_eq (link_of net l).end_b e) (nat_eq (link_of net l).end_a e && nat_eq (link_of net l).end_b d)

module _ (net : Network) (absent : Absent) where
  -- a usable link joins the two
  abbrev pub is_linked : ℕ → ℕ → Bool
  is_linked d e = list_any (λ l. is_usable net absent l && joins net l d e) (link_numbers net)

  pub linked : (d e : ℕ) → are_neighbours net absent d e ≡ is_linked d e
  linked d e = sym (any_found (λ l. is_usable net absent l && joins net l d e) (link_numbers net))

  pub linked_swap : (d e : ℕ) → is_linked d e ≡ true → is_linked e d ≡ true
  linked_swap d e there =
      let found : (l : ℕ) × (has (link_numbers net) l ≡ true) × ((is_usable net absent l && joins net l d e) ≡ true) =
      any_has (λ l. is_usable net absent l && joins net l d e) (link_numbers net) there in
      let parts : (is_usable net absent found.0 ≡ true) × (joins net found.0 d e ≡ true) =
      and_parts (is_usable net absent found.0) (joins net found.0 d e) found.2 in
      has_any (λ l. is_usable net absent l && joins net l e d) (link_numbers net) found.0 found.1
      (and_from (is_usable net absent found.0) (joins net found.0 e d) parts.0 (joins_swap net found.0 e d ∙ parts.1))

  module _ (through : ℕ → Bool) where
    abbrev pub joined : ℕ → ℕ → ℕ → Bool
    joined n d x = joined_within net through (is_usable net absent) n d x

    -- one link at the near end, and then the others
    abbrev pub goes : ℕ → ℕ → ℕ → ℕ → Bool
    goes n d x e = (through e && is_linked d e) && joined n e x

    pub first_link : (n d e x : ℕ) → e < length net.devices → through e ≡ true → is_linked d e ≡ true → joined n e x ≡ true → joined (suc n) d x ≡ true
    first_link n d e x within passes there rest =
        or_right (nat_eq d x) (list_any (goes n d x) (device_numbers net))
        (has_any (goes n d x) (device_numbers net) e (has_below (length net.devices) e within)
        (and_from (through e && is_linked d e) (joined n e x) (and_from (through e) (is_linked d e) passes there) rest))

    -- the first device on the way
    pub record First (n d x : ℕ) : Type 0 where
      pub device : ℕ
      pub within : device < length net.devices
      pub passes : through device ≡ true
      pub there : is_linked d device ≡ true
      pub rest : joined n device x ≡ true

    pub at_first : (n d x : ℕ) → joined (suc n) d x ≡ true → (d ≡ x) ⊎ First n d x
    at_first n d x reached =
        elim (or_cases (nat_eq d x) (list_any (goes n d x) (device_numbers net)) reached) [
          | inl same ↦ inl (eqb-true d x same)
          | inr some ↦
              (let found : (e : ℕ) × (has (device_numbers net) e ≡ true) × (goes n d x e ≡ true) = any_has (goes n d x) (device_numbers net) some in
              let parts : ((through found.0 && is_linked d found.0) ≡ true) × (joined n found.0 x ≡ true) =
              and_parts (through found.0 && is_linked d found.0) (joined n found.0 x) found.2 in
              let first : (through found.0 ≡ true) × (is_linked d found.0 ≡ true) = and_parts (through found.0) (is_linked d found.0) parts.0 in
              inr (record { device = found.0; within = below_has (length net.devices) found.0 found.1; passes = first.0; there = first.1; rest = parts.1 }))
        ]

    pub at_home : (n d : ℕ) → joined n d d ≡ true
    at_home zero d = eq-eqb d d refl
    at_home (suc n) d = or_left (nat_eq d d) (list_any (goes n d d) (device_numbers net)) (eq-eqb d d refl)

    -- one link more at the far end
    pub last_link : (n d e x : ℕ) → joined n d e ≡ true → x < length net.devices → through x ≡ true → is_linked e x ≡ true → joined (suc n) d x ≡ true
    last_link zero d e x reached within passes there =
        first_link 0 d x x within passes (subst (λ y. is_linked y x ≡ true) (sym (eqb-true d e reached)) there) (at_home 0 x)
    last_link (suc n) d e x reached within passes there =
        elim (at_first n d e reached) [
          | inl same ↦ first_link (suc n) d x x within passes (subst (λ y. is_linked y x ≡ true) (sym same) there) (at_home (suc n) x)
          | inr first ↦ first_link (suc n) d first.device x first.within first.passes first.there (last_link n first.device e x first.rest within passes there)
        ]

    -- the last device before the end
    pub record Last (n d x : ℕ) : Type 0 where
      pub device : ℕ
      pub reached : joined n d device ≡ true
      pub within : x < length net.devices
      pub passes : through x ≡ true
      pub there : is_linked device x ≡ true

    pub at_last : (n d x : ℕ) → joined (suc n) d x ≡ true → (d ≡ x) ⊎ Last n d x
    at_last zero d x reached =
        elim (at_first 0 d x reached) [
          | inl same ↦ inl same
          | inr first ↦
              (let same : first.device ≡ x = eqb-true first.device x first.rest in
              inr (record {
                device = d;
                reached = at_home 0 d;
                within = subst (λ y. y < length net.devices) same first.within;
                passes = ap through (sym same) ∙ first.passes;
                there = subst (λ y. is_linked d y ≡ true) same first.there;
              }))
        ]
    at_last (suc n) d x reached =
        elim (at_first (suc n) d x reached) [
          | inl same ↦ inl same
          | inr first ↦ elim (at_last n first.device x first.rest) [
            | inl same ↦
                inr (record {
                  device = d;
                  reached = at_home (suc n) d;
                  within = subst (λ y. y < length net.devices) same first.within;
                  passes = ap through (sym same) ∙ first.passes;
                  there = subst (λ y. is_linked d y ≡ true) same first.there;
                })
            | inr last ↦
                inr (record {
                  device = last.device;
                  reached = first_link n d first.device last.device first.within first.passes first.there last.reached;
                  within = last.within;
                  passes = last.passes;
                  there = last.there;
                })
          ]
        ]

    module _ (source : ℕ) where
      abbrev pub steps : ℕ → Option ℕ
      steps d = steps_from net absent source through d

      pub steps_reach : (d k : ℕ) → steps d ≡ Some k → joined k source d ≡ true
      steps_reach d k is = (found_passes (λ n. joined n source d) (length net.devices + 1) k is).1

      pub steps_within : (d k : ℕ) → steps d ≡ Some k → k ≤ length net.devices
      steps_within d k is = let less : k < length net.devices + 1 = (found_passes (λ n. joined n source d) (length net.devices + 1) k is).0 in omega arith

      pub steps_least : (d k j : ℕ) → steps d ≡ Some k → j < k → joined j source d ≡ false
      steps_least d k j is less = least_found (λ n. joined n source d) (length net.devices + 1) k is j less

      pub steps_some : (d k : ℕ) → k ≤ length net.devices → joined k source d ≡ true → (j : ℕ) × (j ≤ k) × (steps d ≡ Some j)
      steps_some d k within reached = found_least (λ n. joined n source d) (length net.devices + 1) k (omega arith) reached

      -- none lead to the source alone
      pub no_steps : (d : ℕ) → steps d ≡ Some 0 → source ≡ d
      no_steps d is = eqb-true source d (steps_reach d 0 is)

      -- a device that many steps away has a neighbour one step less away
      pub record Nearer (n d : ℕ) : Type 0 where
        pub device : ℕ
        pub steps_to : steps device ≡ Some n
        pub linked_to : is_linked d device ≡ true
        pub is_near : (source ≡ device) ⊎ ((device < length net.devices) × (through device ≡ true))

      pub nearer : (n d : ℕ) → steps d ≡ Some (suc n) → Nearer n d
      nearer n d is =
          elim (at_last n source d (steps_reach d (suc n) is)) [
            | inl same ↦ absurd (both_ways (joined 0 source d) (steps_least d (suc n) 0 is (omega arith)) (eq-eqb source d same))
            | inr last ↦
                (let within : suc n ≤ length net.devices = steps_within d (suc n) is in
                let found : (j : ℕ) × (j ≤ n) × (steps last.device ≡ Some j) = steps_some last.device n (omega arith) last.reached in
                let far : (found.0 < n → ⊥) =
                λ (less : found.0 < n). both_ways (joined (suc found.0) source d) (steps_least d (suc n) (suc found.0) is (omega arith))
                (last_link found.0 source last.device d (steps_reach last.device found.0 found.2) last.within last.passes last.there) in
                let same : found.0 ≡ n = elim (cases_lt found.0 n) [ inl less ↦ absurd (far less) | inr more ↦ omega (arith, found.1) ] in
                record {
                  device = last.device;
                  steps_to = found.2 ∙ ap (λ (k : ℕ). Some k) same;
                  linked_to = linked_swap last.device d last.there;
                  is_near = near n last.device last.reached;
                })
          ]
        where
          near : (n e : ℕ) → joined n source e ≡ true → (source ≡ e) ⊎ ((e < length net.devices) × (through e ≡ true))
          near zero e reached = inl (eqb-true source e reached)
          near (suc n) e reached = elim (at_last n source e reached) [ inl same ↦ inl same | inr last ↦ inr (last.within, last.passes) ]
