-- Where all members of a plan are up and its links are not failed, the devices that are up and left out are cut off from its root exactly where no link leads
-- from a member to one of them.
use Rattle.std.specs.Prelude.{◌≡◌, ℕ, zero, suc, ◌+◌, ◌-◌, ◌<◌, ◌≤◌, Bool, true, false, ◌&&◌, ◌||◌, not, List, [], ◌∷◌, length, nat_eq, Some, None, ◌⊎◌}
use Rattle.std.specs.List.{list_any, IsDistinct}
use Rattle.std.proofs.Common.{arith, ◌∙◌, sym, subst, inl, inr, refl}
use Rattle.std.proofs.lemmas.Bool.{and_parts, and_from, or_left, or_right, or_cases, eqb-true, eq-eqb, both_ways, false_from_ne_true, not-true, not_from_false}
use Rattle.std.proofs.lemmas.List.{length-map}
use Rattle.std.proofs.lemmas.Map.Steps.{length-le_from_distinct_below}
use Rattle.sd_num.specs.Lists.{has}
use Rattle.sd_num.proofs.Shared.{differs, any_below_at}
use Rattle.sd_plan.specs.topo.Network.{Network, joins, link_of, device_numbers, link_numbers}
use Rattle.sd_plan.specs.topo.Joined.{Joined, here, over, joined_within}
use Rattle.sd_plan.proofs.topo.Reaching.{walk_joins}
use Rattle.sd_plan.specs.declared.Hop.{Hop}
use Rattle.sd_plan.specs.declared.Plan.{Plan}
use Rattle.sd_plan.specs.Plans.{is_member, is_root, primary_of}
use Rattle.sd_plan.specs.Walks.{walk, devices_of}
use Rattle.sd_plan.proofs.Forest.{height, IsForest, climb, on_within, on_member, not_above}

-- Numbers of which none comes twice

distinct_one : (x : ℕ) → IsDistinct nat_eq (x ∷ [])
unfolding IsDistinct
distinct_one x = (tt, tt)

distinct_more : (x : ℕ) (xs : List ℕ) → has xs x ≡ false → IsDistinct nat_eq xs → IsDistinct nat_eq (x ∷ xs)
unfolding IsDistinct
distinct_more x xs none distinct = (differs x xs none, distinct)

-- an element that passes one test passes the other
weaker : (p q : ℕ → Bool) (xs : List ℕ) → ((x : ℕ) → p x ≡ true → q x ≡ true) → list_any p xs ≡ true → list_any q xs ≡ true
weaker p q [] more some = some
weaker p q (x ∷ xs) more some = elim (or_cases (p x) (list_any p xs) some) [
  | inl one ↦ or_left (q x) (list_any q xs) (more x one)
  | inr rest ↦ or_right (q x) (list_any q xs) (weaker p q xs more rest)
]

-- the two ends of a link that joins
ends_joined : (net : Network) (l d e : ℕ) → joins net l d e ≡ true
    → (((link_of net l).end_a ≡ d) × ((link_of net l).end_b ≡ e)) ⊎ (((link_of net l).end_a ≡ e) × ((link_of net l).end_b ≡ d))
ends_joined net l d e joined =
    elim (or_cases (nat_eq (link_of net l).end_a d && nat_eq (link_of net l).end_b e) (nat_eq (link_of net l).end_a e && nat_eq (link_of net l).end_b d) joined) [
      | inl ahead ↦ (let parts = and_parts (nat_eq (link_of net l).end_a d) (nat_eq (link_of net l).end_b e) ahead in
          inl (eqb-true (link_of net l).end_a d parts.0, eqb-true (link_of net l).end_b e parts.1))
      | inr back ↦ (let parts = and_parts (nat_eq (link_of net l).end_a e) (nat_eq (link_of net l).end_b d) back in
          inr (eqb-true (link_of net l).end_a e parts.0, eqb-true (link_of net l).end_b d parts.1))
    ]

module _ (net : Network) (plan : Plan) (up live : ℕ → Bool) where
  -- the first is a member, and the other is up and none
  abbrev pub parts_by : ℕ → ℕ → Bool
  parts_by member other = is_member plan member && not (is_member plan other) && up other

  -- a live link has two such ends
  abbrev pub leads_by : ℕ → Bool
  leads_by l = live l && (parts_by (link_of net l).end_a (link_of net l).end_b || parts_by (link_of net l).end_b (link_of net l).end_a)

  -- the device is up, left out and joined to the root
  abbrev pub strays : ℕ → Bool
  strays d = up d && not (is_member plan d) && joined_within net up live (length net.devices) d plan.root

  part_so : (member other : ℕ) → is_member plan member ≡ true → is_member plan other ≡ false → up other ≡ true → parts_by member other ≡ true
  part_so member other is none rises =
      and_from (is_member plan member && not (is_member plan other)) (up other)
      (and_from (is_member plan member) (not (is_member plan other)) is (not_from_false (is_member plan other) none)) rises

  leads_so : (l d e : ℕ) → live l ≡ true → joins net l d e ≡ true → is_member plan e ≡ true → is_member plan d ≡ false → up d ≡ true → leads_by l ≡ true
  leads_so l d e lives joined member none rises =
      and_from (live l) (parts_by (link_of net l).end_a (link_of net l).end_b || parts_by (link_of net l).end_b (link_of net l).end_a) lives
      (elim (ends_joined net l d e joined) [
        | inl ahead ↦ or_right (parts_by (link_of net l).end_a (link_of net l).end_b) (parts_by (link_of net l).end_b (link_of net l).end_a)
            (subst (λ (a : ℕ). parts_by (link_of net l).end_b a ≡ true) (sym ahead.0)
            (subst (λ (b : ℕ). parts_by b d ≡ true) (sym ahead.1) (part_so e d member none rises)))
        | inr back ↦ or_left (parts_by (link_of net l).end_a (link_of net l).end_b) (parts_by (link_of net l).end_b (link_of net l).end_a)
            (subst (λ (a : ℕ). parts_by a (link_of net l).end_b ≡ true) (sym back.0)
            (subst (λ (b : ℕ). parts_by e b ≡ true) (sym back.1) (part_so e d member none rises)))
      ])

  -- No link leads out

  module _ (root_member : is_member plan plan.root ≡ true) (none_leads : (l : ℕ) → l < length net.links → leads_by l ≡ false) where
    stays_apart : {d x : ℕ} → Joined net up live d x → x ≡ plan.root → up d ≡ true → is_member plan d ≡ false → ⊥
    stays_apart {d = d} here is rises none = both_ways (is_member plan d) none (subst (λ (y : ℕ). is_member plan y ≡ true) (sym is) root_member)
    stays_apart {d = d} (over {e = e} l in_range crosses joined passes rest) is rises none = by (is_member plan e) refl (stays_apart rest is passes)
      where
        by : (b : Bool) → is_member plan e ≡ b → (is_member plan e ≡ false → ⊥) → ⊥
        by true member more = both_ways (leads_by l) (none_leads l in_range) (leads_so l d e crosses joined member none rises)
        by false other more = more other

    pub none_strays : (d : ℕ) → strays d ≡ false
    none_strays d =
        false_from_ne_true (strays d) (λ all.
        let last = and_parts (up d && not (is_member plan d)) (joined_within net up live (length net.devices) d plan.root) all in
        let first = and_parts (up d) (not (is_member plan d)) last.0 in
        stays_apart (walk_joins net up live (length net.devices) d plan.root last.1) refl first.0 (not-true (is_member plan d) first.1))

  -- Some link leads out

  -- one step of a walk of joined devices
  step_within : (n d e x l : ℕ) → e < length net.devices → l < length net.links → up e ≡ true → live l ≡ true → joins net l d e ≡ true
      → joined_within net up live n e x ≡ true → joined_within net up live (suc n) d x ≡ true
  step_within n d e x l known in_range rises lives joined rest =
      or_right (nat_eq d x) _
      (any_below_at (λ y. (up y && list_any (λ k. live k && joins net k d y) (link_numbers net)) && joined_within net up live n y x)
      (length net.devices) e known
      (and_from (up e && list_any (λ k. live k && joins net k d e) (link_numbers net)) (joined_within net up live n e x)
      (and_from (up e) (list_any (λ k. live k && joins net k d e) (link_numbers net)) rises
      (any_below_at (λ k. live k && joins net k d e) (length net.links) l in_range (and_from (live l) (joins net l d e) lives joined)))
      rest))

  -- a live link leads to a device that is up, and from there a walk goes on
  abbrev reaches : ℕ → ℕ → Bool
  reaches d y = up y && list_any (λ k. live k && joins net k d y) (link_numbers net)

  abbrev goes_on : ℕ → ℕ → ℕ → ℕ → Bool
  goes_on n d x y = reaches d y && joined_within net up live n y x

  -- what fewer links join more links join
  one_longer : (n d x : ℕ) → joined_within net up live n d x ≡ true → joined_within net up live (suc n) d x ≡ true
  one_longer zero d x within = or_left (nat_eq d x) _ within
  one_longer (suc n) d x within = elim (or_cases (nat_eq d x) (list_any (goes_on n d x) (device_numbers net)) within) [
    | inl same ↦ or_left (nat_eq d x) _ same
    | inr some ↦ or_right (nat_eq d x) _ (weaker (goes_on n d x) (goes_on (suc n) d x) (device_numbers net) (λ y is.
        let parts = and_parts (reaches d y) (joined_within net up live n y x) is in
        and_from (reaches d y) (joined_within net up live (suc n) y x) parts.0 (one_longer n y x parts.1)) some)
  ]

  longer_by : (k n d x : ℕ) → joined_within net up live n d x ≡ true → joined_within net up live (k + n) d x ≡ true
  longer_by zero n d x within = let same : n ≡ zero + n = omega arith in subst (λ (m : ℕ). joined_within net up live m d x ≡ true) same within
  longer_by (suc k) n d x within =
      let same : suc (k + n) ≡ suc k + n = omega arith in
      subst (λ (m : ℕ). joined_within net up live m d x ≡ true) same (one_longer (k + n) d x (longer_by k n d x within))

  module _
      (forest : IsForest net plan)
      (members_up : (d : ℕ) → d < length net.devices → is_member plan d ≡ true → up d ≡ true)
      (hops_live : (d : ℕ) (hop : Hop) → d < length net.devices → primary_of plan d ≡ Some hop → live hop.link ≡ true)
    where
      -- a member is joined to the root by its walk
      walks_up : (d : ℕ) → d < length net.devices → is_member plan d ≡ true → joined_within net up live (height net plan d) d plan.root ≡ true
      walks_up = climb net plan forest (λ d. is_member plan d ≡ true → joined_within net up live (height net plan d) d plan.root ≡ true)
          (λ d within none member. subst (λ (hs : List Hop). joined_within net up live (length hs) d plan.root ≡ true) (sym (forest.top d none))
          (at_top d within none member))
          (λ d hop within is step above member.
          subst (λ (hs : List Hop). joined_within net up live (length hs) d plan.root ≡ true) (sym step.walk)
          (step_within (height net plan hop.parent) d hop.parent plan.root hop.link step.within step.link (members_up hop.parent step.within step.above)
          (hops_live d hop within is) step.joined (above step.above)))
        where
          at_top : (d : ℕ) → d < length net.devices → primary_of plan d ≡ None → is_member plan d ≡ true → nat_eq d plan.root ≡ true
          at_top d within none member = by (is_root plan d) refl
            where
              lost : (hop : Hop) → None ≡ Some hop → ⊥
              lost hop is = cc

              by : (b : Bool) → is_root plan d ≡ b → nat_eq d plan.root ≡ true
              by true root = eq-eqb d plan.root (sym (eqb-true plan.root d root))
              by false other =
                  (let found : (hop : Hop) × (primary_of plan d ≡ Some hop) = forest.hop d within member other in absurd (lost found.0 (sym none ∙ found.1)))

      -- no device comes twice on a walk
      walks_once : (d : ℕ) → d < length net.devices → IsDistinct nat_eq (devices_of d (walk net plan d))
      walks_once = climb net plan forest (λ d. IsDistinct nat_eq (devices_of d (walk net plan d)))
          (λ d within none. subst (λ (hs : List Hop). IsDistinct nat_eq (devices_of d hs)) (sym (forest.top d none)) (distinct_one d))
          (λ d hop within is step above.
          subst (λ (hs : List Hop). IsDistinct nat_eq (devices_of d hs)) (sym step.walk)
          (distinct_more d (devices_of hop.parent (walk net plan hop.parent)) (not_above net plan forest d hop step) above))

      -- so a member lies at least two devices below their number, where some device is none
      low : (d other : ℕ) → d < length net.devices → is_member plan d ≡ true → other < length net.devices → is_member plan other ≡ false
          → height net plan d + 2 ≤ length net.devices
      low d other within member known none = omega (arith, most, long)
        where
          apart : has (devices_of d (walk net plan d)) other ≡ false
          apart = false_from_ne_true (has (devices_of d (walk net plan d)) other)
              (λ on. both_ways (is_member plan other) none (on_member net plan forest other d within member on))

          all : (x : ℕ) → has (other ∷ devices_of d (walk net plan d)) x ≡ true → x < length net.devices
          all x on = elim (or_cases (nat_eq x other) (has (devices_of d (walk net plan d)) x) on) [
            | inl is ↦ subst (λ (y : ℕ). y < length net.devices) (sym (eqb-true x other is)) known
            | inr more ↦ on_within net plan forest x d within more
          ]

          most : length (other ∷ devices_of d (walk net plan d)) ≤ length net.devices
          most = length-le_from_distinct_below (other ∷ devices_of d (walk net plan d)) (length net.devices)
              (distinct_more other (devices_of d (walk net plan d)) apart (walks_once d within)) all

          long : length (other ∷ devices_of d (walk net plan d)) ≡ height net plan d + 2
          long = omega (arith, length-map (walk net plan d) (λ (hop : Hop). hop.parent))

      -- a device over a live link from a member strays
      strays_by : (l d e : ℕ) → l < length net.links → d < length net.devices → e < length net.devices → live l ≡ true → joins net l d e ≡ true
          → is_member plan e ≡ true → is_member plan d ≡ false → up d ≡ true → strays d ≡ true
      strays_by l d e in_range known within lives joined member none rises =
          let far : height net plan e + 2 ≤ length net.devices = low e d within member known none in
          let near : joined_within net up live (suc (height net plan e)) d plan.root ≡ true =
          step_within (height net plan e) d e plan.root l within in_range (members_up e within member) lives joined (walks_up e within member) in
          let enough : joined_within net up live (length net.devices) d plan.root ≡ true =
          subst (λ (m : ℕ). joined_within net up live m d plan.root ≡ true) (omega (arith, far))
          (longer_by (length net.devices - suc (height net plan e)) (suc (height net plan e)) d plan.root near) in
          and_from (up d && not (is_member plan d)) (joined_within net up live (length net.devices) d plan.root)
          (and_from (up d) (not (is_member plan d)) rises (not_from_false (is_member plan d) none)) enough

      -- so does one end of a link that leads out
      pub some_strays : (l : ℕ) → l < length net.links → (link_of net l).end_a < length net.devices → (link_of net l).end_b < length net.devices
          → leads_by l ≡ true → (d : ℕ) × (d < length net.devices) × (strays d ≡ true)
      some_strays l in_range first second leads =
          let parts = and_parts (live l) (parts_by (link_of net l).end_a (link_of net l).end_b || parts_by (link_of net l).end_b (link_of net l).end_a) leads in
          elim (or_cases (parts_by (link_of net l).end_a (link_of net l).end_b) (parts_by (link_of net l).end_b (link_of net l).end_a) parts.1) [
            | inl ahead ↦ (let three = split (link_of net l).end_a (link_of net l).end_b ahead in (
              (link_of net l).end_b,
              second,
              strays_by l (link_of net l).end_b
                  (link_of net l).end_a in_range second first parts.0 back_joins three.0 three.1 three.2,
            ))
            | inr back ↦ (let three = split (link_of net l).end_b (link_of net l).end_a back in (
              (link_of net l).end_a,
              first,
              strays_by l (link_of net l).end_a
                  (link_of net l).end_b in_range first second parts.0 joins_ahead three.0 three.1 three.2,
            ))
          ]
        where
          split : (member other : ℕ) → parts_by member other ≡ true → (is_member plan member ≡ true) × (is_member plan other ≡ false) × (up other ≡ true)
          split member other is =
              let last = and_parts (is_member plan member && not (is_member plan other)) (up other) is in
              let both = and_parts (is_member plan member) (not (is_member plan other)) last.0 in
              (both.0, not-true (is_member plan other) both.1, last.1)

          joins_ahead : joins net l (link_of net l).end_a (link_of net l).end_b ≡ true
          joins_ahead = or_left (nat_eq (link_of net l).end_a (link_of net l).end_a && nat_eq (link_of net l).end_b (link_of net l).end_b) _
              (and_from (nat_eq (link_of net l).end_a (link_of net l).end_a) (nat_eq (link_of net l).end_b (link_of net l).end_b)
              (eq-eqb (link_of net l).end_a (link_of net l).end_a refl) (eq-eqb (link_of net l).end_b (link_of net l).end_b refl))

          back_joins : joins net l (link_of net l).end_b (link_of net l).end_a ≡ true
          back_joins = or_right (nat_eq (link_of net l).end_a (link_of net l).end_b && nat_eq (link_of net l).end_b (link_of net l).end_a) _
              (and_from (nat_eq (link_of net l).end_a (link_of net l).end_a) (nat_eq (link_of net l).end_b (link_of net l).end_b)
              (eq-eqb (link_of net l).end_a (link_of net l).end_a refl) (eq-eqb (link_of net l).end_b (link_of net l).end_b refl))
