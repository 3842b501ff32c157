-- A walk that comes back to where it began has a ring in it.
use Rattle.std.specs.Prelude.{◌≡◌, ℕ, Bool, true, false, ◌||◌, not, List, [], ◌∷◌, ◌++◌, ◌⊎◌, nat_eq, refl, if◌then◌else◌}
use Rattle.std.specs.List.{list_any}
use Rattle.std.proofs.Common.{sym, ap, ◌∙◌, subst, inl, inr}
use Rattle.std.proofs.lemmas.Bool.{and_parts, or_cases, or_left, or_right, eqb-true, eq-eqb, both_ways, not-true, false_from_ne_true, cases_Bool}
use Rattle.sd_num.specs.Lists.{has, leading}
use Rattle.sd_plan.specs.topo.Network.{Network}
use Rattle.sd_plan.specs.declared.domain.DomainId.{DomainId}
use Rattle.sd_plan.specs.declared.Hop.{Hop}
use Rattle.sd_plan.specs.declared.Plan.{Plan}
use Rattle.sd_plan.specs.Walks.{devices_of, end_of}
use Rattle.sd_checker.specs.check_loop.Loops.{hops_of, same_hop, is_walk}
use Rattle.sd_checker.specs.check_loop.ShownCycles.{LeadsTo, IsChain, AreDifferent}
use Rattle.sd_checker.proofs.check_loop.Shared.{parent_any}
use Rattle.sd_beside.specs.needed.Loops.{ClosesLoop, CycleIsNeeded}
use Rattle.sd_beside.proofs.needed.Loops.{loop_is_needed}

-- a ring of a relation
record RingIn (R : ℕ → ℕ → Type 0) : Type 0 where
  pub start : ℕ
  pub others : List ℕ
  pub different : AreDifferent (start ∷ others)
  pub leads : IsChain R (start ∷ (others ++ start ∷ []))

-- what comes before the first x
abbrev before : ℕ → List ℕ → List ℕ
before x xs = leading (λ y. not (nat_eq x y)) xs

before_has : (x : ℕ) (xs : List ℕ) (z : ℕ) → has (before x xs) z ≡ true → (has xs z ≡ true) × (nat_eq x z ≡ false)
before_has x [] z there = cc
before_has x (y ∷ ys) z there = by (nat_eq x y) refl there (before_has x ys z)
  where
    by : (b : Bool) → nat_eq x y ≡ b → has (if not b then y ∷ before x ys else []) z ≡ true
        → (has (before x ys) z ≡ true → (has ys z ≡ true) × (nat_eq x z ≡ false)) → (has (y ∷ ys) z ≡ true) × (nat_eq x z ≡ false)
    by true same there' rest = cc
    by false other there' rest = elim (or_cases (nat_eq z y) (has (before x ys) z) there') [
      | inl here ↦ (or_left (nat_eq z y) (has ys z) here, subst (λ (v : ℕ). nat_eq x v ≡ false) (sym (eqb-true z y here)) other)
      | inr more ↦ (let it = rest more in (or_right (nat_eq z y) (has ys z) it.0, it.1))
    ]

before_different : (x : ℕ) (xs : List ℕ) → AreDifferent xs → AreDifferent (before x xs)
before_different x [] different = tt
before_different x (y ∷ ys) different = by (nat_eq x y) (before_different x ys different.1)
  where
    by : (b : Bool) → AreDifferent (before x ys) → AreDifferent (if not b then y ∷ before x ys else [])
    by true rest = tt
    by false rest = (
      ap not (false_from_ne_true (has (before x ys) y)
          (λ there. both_ways (has ys y) (not-true (has ys y) different.0) (before_has x ys y there).0)),
      rest,
    )

chain_before : (R : ℕ → ℕ → Type 0) (y x : ℕ) (xs : List ℕ) → has xs x ≡ true → IsChain R (y ∷ xs) → IsChain R (y ∷ (before x xs ++ x ∷ []))
chain_before R y x [] there chain = cc
chain_before R y x (z ∷ zs) there chain = by (nat_eq x z) refl (λ more. chain_before R z x zs more chain.1)
  where
    by : (b : Bool) → nat_eq x z ≡ b → (has zs x ≡ true → IsChain R (z ∷ (before x zs ++ x ∷ [])))
        → IsChain R (y ∷ ((if not b then z ∷ before x zs else []) ++ x ∷ []))
    by true same rest = (subst (λ (v : ℕ). R y v) (sym (eqb-true x z same)) chain.0, tt)
    by false other rest = (chain.0, rest (sym (ap (λ b. b || has zs x) other) ∙ there))

-- a chain has different elements, or a ring is in it
different_or_ring : (R : ℕ → ℕ → Type 0) (xs : List ℕ) → IsChain R xs → AreDifferent xs ⊎ RingIn R
different_or_ring R [] chain = inl tt
different_or_ring R (x ∷ xs) chain = by (different_or_ring R xs (rest_of xs chain))
  where
    rest_of : (ys : List ℕ) → IsChain R (x ∷ ys) → IsChain R ys
    rest_of [] c = tt
    rest_of (y ∷ ys) c = c.1

    by : AreDifferent xs ⊎ RingIn R → AreDifferent (x ∷ xs) ⊎ RingIn R
    by (inr ring) = inr ring
    by (inl different) = elim (cases_Bool (has xs x)) [
      | inl there ↦ inr (record {
        start = x;
        others = before x xs;
        different = (
          ap not (false_from_ne_true (has (before x xs) x) (λ again. both_ways (nat_eq x x) (before_has x xs x again).1 (eq-eqb x x refl))),
          before_different x xs different,
        );
        leads = chain_before R x x xs there chain;
      })
      | inr none ↦ inl (ap not none, different)
    ]

walk_chain : (net : Network) (plan : Plan) (f : DomainId) (d : ℕ) (hop : Hop) (hs : List Hop) → is_walk net plan f d (hop ∷ hs) ≡ true
    → IsChain (LeadsTo net plan f) (d ∷ devices_of hop.parent hs)
walk_chain net plan f d hop [] walk =
    (parent_any (hops_of net plan f d) hop (and_parts (list_any (same_hop hop) (hops_of net plan f d)) true walk).0, tt)
walk_chain net plan f d hop (h ∷ hs) walk =
    let (here, rest) = and_parts (list_any (same_hop hop) (hops_of net plan f d)) (is_walk net plan f hop.parent (h ∷ hs)) walk in
    (parent_any (hops_of net plan f d) hop here, walk_chain net plan f hop.parent h hs rest)

-- it ends at one of its devices
ends_among : (d : ℕ) (hs : List Hop) → has (devices_of d hs) (end_of d hs) ≡ true
ends_among d [] = or_left (nat_eq d d) false (eq-eqb d d refl)
ends_among d (h ∷ hs) = or_right (nat_eq (end_of h.parent hs) d) (has (devices_of h.parent hs) (end_of h.parent hs)) (ends_among h.parent hs)

pub cycle_is_needed : (net : Network) (plan : Plan) → CycleIsNeeded net plan
cycle_is_needed net plan law fits structured bound f is_domain d hop hs walk ends =
    by (different_or_ring (LeadsTo net plan f) (d ∷ devices_of hop.parent hs) (walk_chain net plan f d hop hs walk))
  where
    comes_back : has (devices_of hop.parent hs) d ≡ true
    comes_back = subst (λ (x : ℕ). has (devices_of hop.parent hs) x ≡ true) ends (ends_among hop.parent hs)

    by : AreDifferent (d ∷ devices_of hop.parent hs) ⊎ RingIn (LeadsTo net plan f)
        → (first : ℕ) × ((others : List ℕ) × AreDifferent (first ∷ others) × ClosesLoop net plan f first others)
    by (inl different) = absurd (both_ways (has (devices_of hop.parent hs) d) (not-true (has (devices_of hop.parent hs) d) different.0) comes_back)
    by (inr ring) = (
      ring.start,
      (
        ring.others,
        ring.different,
        loop_is_needed net plan law fits structured bound f is_domain ring.start ring.others (record { different = ring.different; leads = ring.leads }),
      ),
    )
