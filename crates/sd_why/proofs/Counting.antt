-- Numbers that differ are counted: pairs of lists, and what a list is mapped to.
use Rattle.std.proofs.Common.{◌≡◌, ℕ, suc, ◌+◌, ◌≤◌, ◌<◌, Bool, true, false, not, ◌||◌, List, [], ◌∷◌, length, map, filter, nat_eq, cond, get_or, Some, slice_get, refl, sym, ap, ◌∙◌, subst, arith, inl, inr}
use Rattle.std.proofs.lemmas.Bool.{both_ways, eq-eqb, eqb-true, false_from_ne_true, not-true, or_cases, or_left, or_right}
use Rattle.std.proofs.lemmas.Option.{same_Some, slice_get-get_or, slice_get_within}
use Rattle.sd_num.specs.Lists.{ascends, has}
use Rattle.sd_num.proofs.Ascending.{first_below, tail_ascends}
use Rattle.sd_num.proofs.Distinct.{AreDistinct}
use Rattle.sd_num.proofs.Places.{at_has, kept_from, kept_parts}

-- what a mapped list has
pub map_has : (f : ℕ → ℕ) (xs : List ℕ) (y : ℕ) → has (map f xs) y ≡ true → (x : ℕ) × (has xs x ≡ true) × (y ≡ f x)
map_has f [] y there = cc
map_has f (x ∷ xs) y there = elim (or_cases (nat_eq y (f x)) (has (map f xs) y) there) [
  | inl here ↦ (x, or_left (nat_eq x x) (has xs x) (eq-eqb x x refl), eqb-true y (f x) here)
  | inr later ↦
      (let found : (z : ℕ) × (has xs z ≡ true) × (y ≡ f z) = map_has f xs y later in
      (found.0, or_right (nat_eq found.0 x) (has xs found.0) found.1, found.2))
]

-- numbers that are mapped to others, each to its own
pub distinct_map : (f : ℕ → ℕ) (xs : List ℕ) → AreDistinct xs → ((x y : ℕ) → has xs x ≡ true → has xs y ≡ true → f x ≡ f y → x ≡ y)
    → AreDistinct (map f xs)
distinct_map f [] apart own = tt
distinct_map f (x ∷ xs) apart own = (
  false_from_ne_true (has (map f xs) (f x)) (λ there.
      let found : (z : ℕ) × (has xs z ≡ true) × (f x ≡ f z) = map_has f xs (f x) there in
      let same : x ≡ found.0 = own x found.0 (or_left (nat_eq x x) (has xs x) (eq-eqb x x refl)) (or_right (nat_eq found.0 x) (has xs found.0) found.1) found.2 in
      both_ways (has xs x) apart.0 (subst (λ w. has xs w ≡ true) (sym same) found.1)),
  distinct_map f xs apart.1 (λ y z first second. own y z (or_right (nat_eq y x) (has xs y) first) (or_right (nat_eq z x) (has xs z) second)),
)

-- numbers but one
abbrev pub but : ℕ → List ℕ → List ℕ
but x xs = filter (λ y. not (nat_eq x y)) xs

pub but_has : (x : ℕ) (xs : List ℕ) (y : ℕ) → has (but x xs) y ≡ true → (has xs y ≡ true) × (nat_eq x y ≡ false)
but_has x xs y there = let parts = kept_parts (λ y. not (nat_eq x y)) xs y there in (parts.1, not-true (nat_eq x y) parts.0)

-- of numbers without it all are left
but_none : (x : ℕ) (xs : List ℕ) → has xs x ≡ false → length xs ≤ length (but x xs)
but_none x [] none = omega arith
but_none x (y ∷ ys) none = by (nat_eq x y) (has ys x) none (but_none x ys)
  where
    by : (b c : Bool) → (b || c) ≡ false → (c ≡ false → length ys ≤ length (but x ys))
        → suc (length ys) ≤ length (cond (not b) (y ∷ but x ys) (but x ys))
    by true c none rest = cc
    by false c none rest = (let more = rest none in omega (arith, more))

-- of distinct numbers one at most is lost
pub but_one : (x : ℕ) (xs : List ℕ) → AreDistinct xs → length xs ≤ length (but x xs) + 1
but_one x [] apart = omega arith
but_one x (y ∷ ys) apart = by (nat_eq x y) refl (but_one x ys apart.1)
  where
    by : (b : Bool) → nat_eq x y ≡ b → length ys ≤ length (but x ys) + 1 → suc (length ys) ≤ length (cond (not b) (y ∷ but x ys) (but x ys)) + 1
    by true same rest =
        let none : has ys x ≡ false = subst (λ z. has ys z ≡ false) (sym (eqb-true x y same)) apart.0 in
        let all = but_none x ys none in
        omega (arith, all)
    by false other rest = omega (arith, rest)

-- one that is there is lost
but_less : (x : ℕ) (xs : List ℕ) → has xs x ≡ true → length (but x xs) + 1 ≤ length xs
but_less x [] there = cc
but_less x (y ∷ ys) there = by (nat_eq x y) (has ys x) there (but_less x ys) (most ys)
  where
    most : (zs : List ℕ) → length (but x zs) ≤ length zs
    most [] = omega arith
    most (z ∷ zs) = step (nat_eq x z) (most zs)
      where
        step : (b : Bool) → length (but x zs) ≤ length zs → length (cond (not b) (z ∷ but x zs) (but x zs)) ≤ suc (length zs)
        step true rest = omega (arith, rest)
        step false rest = omega (arith, rest)

    by : (b c : Bool) → (b || c) ≡ true → (c ≡ true → length (but x ys) + 1 ≤ length ys) → length (but x ys) ≤ length ys
        → length (cond (not b) (y ∷ but x ys) (but x ys)) + 1 ≤ suc (length ys)
    by true c there rest fewer = omega (arith, fewer)
    by false c there rest fewer = (let more = rest there in omega (arith, more))

-- distinct numbers that a list has are no more than it has
pub no_more : (xs ys : List ℕ) → AreDistinct xs → ((x : ℕ) → has xs x ≡ true → has ys x ≡ true) → length xs ≤ length ys
no_more [] ys apart among = omega arith
no_more (x ∷ xs) ys apart among =
    let rest : length xs ≤ length (but x ys) = no_more xs (but x ys) apart.1 (λ y there.
    kept_from (λ y. not (nat_eq x y)) ys y (other y there) (among y (or_right (nat_eq y x) (has xs y) there))) in
    let less = but_less x ys (among x (or_left (nat_eq x x) (has xs x) (eq-eqb x x refl))) in
    omega (arith, rest, less)
  where
    other : (y : ℕ) → has xs y ≡ true → not (nat_eq x y) ≡ true
    other y there =
        ap not (false_from_ne_true (nat_eq x y) (λ same. both_ways (has xs x) apart.0 (subst (λ z. has xs z ≡ true) (sym (eqb-true x y same)) there)))

-- numbers that ascend differ
pub ascending_apart : (xs : List ℕ) → ascends xs ≡ true → AreDistinct xs
ascending_apart [] up = tt
ascending_apart (x ∷ xs) up = (
  false_from_ne_true (has xs x) (λ there.
      let at = at_has xs x there in
      let within = slice_get_within xs at.0 x at.1 in
      let less = first_below x xs at.0 up within in
      absurd (below_itself at.0 (slice_get-get_or xs at.0 0 within) at.1 less)),
  ascending_apart xs (tail_ascends x xs up),
)
  where
    below_itself : (j : ℕ) → slice_get xs j ≡ Some (get_or xs j 0) → slice_get xs j ≡ Some x → x < get_or xs j 0 → ⊥
    below_itself j at is less = (let same = same_Some (get_or xs j 0) x (sym at ∙ is) in omega (arith, same, less))
