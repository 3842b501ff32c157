-- What a test of all elements sees of a list: which elements it has, and neither their order nor how often they come.
use Rattle.std.proofs.Common.{◌≡◌, ℕ, ◌||◌, Bool, true, List, [], ◌∷◌, nat_eq, refl, sym, ap, ◌∙◌, inl, inr}
use Rattle.std.specs.List.{list_all, list_any}
use Rattle.std.specs.Ordering.{nat_cmp, eq_by_cmp}
use Rattle.std.specs.Cmp.{nat_cmp_total, unsigned_tied}
use Rattle.std.specs.FinSet as set
use Rattle.std.proofs.lemmas.Bool.{and_parts, and_from, or_cases, or_left, or_right, eqb-true, eq-eqb}
use Rattle.sd_num.proofs.Shared.{same_from_both}

module _ {X : Type 0} (eq : X → X → Bool) (equal : (x y : X) → eq x y ≡ true → x ≡ y) (itself : (x : X) → eq x x ≡ true) where
  -- what all elements pass, each of them passes
  each_passes : (test : X → Bool) (xs : List X) → list_all test xs ≡ true → (x : X) → list_any (eq x) xs ≡ true → test x ≡ true
  each_passes test [] all x some = cc
  each_passes test (y ∷ ys) all x some =
      let parts : (test y ≡ true) × (list_all test ys ≡ true) = and_parts (test y) (list_all test ys) all in
      elim (or_cases (eq x y) (list_any (eq x) ys) some) [ inl here ↦ ap test (equal x y here) ∙ parts.0 | inr later ↦ each_passes test ys parts.1 x later ]

  -- what each element passes, all of them pass
  all_pass : (test : X → Bool) (xs : List X) → ((x : X) → list_any (eq x) xs ≡ true → test x ≡ true) → list_all test xs ≡ true
  all_pass test [] each = refl
  all_pass test (y ∷ ys) each =
      and_from (test y) (list_all test ys) (each y (or_left (eq y y) (list_any (eq y) ys) (itself y)))
      (all_pass test ys (λ x later. each x (or_right (eq x y) (list_any (eq x) ys) later)))

  -- lists with the same elements pass alike
  pub list_all_same : (test : X → Bool) (xs ys : List X) → ((x : X) → list_any (eq x) xs ≡ list_any (eq x) ys) → list_all test xs ≡ list_all test ys
  list_all_same test xs ys same =
      same_from_both (list_all test xs) (list_all test ys)
      (λ all. all_pass test ys (λ x some. each_passes test xs all x (same x ∙ some)))
      (λ all. all_pass test xs (λ x some. each_passes test ys all x (sym (same x) ∙ some)))

-- numbers that tie are equal
tied_equal : (x y : ℕ) → eq_by_cmp nat_cmp x y ≡ true → x ≡ y
tied_equal x y tied = eqb-true x y (sym (unsigned_tied x y) ∙ tied)

-- a number ties with itself
tied_itself : (x : ℕ) → eq_by_cmp nat_cmp x x ≡ true
tied_itself x = unsigned_tied x x ∙ eq-eqb x x refl

-- the elements of a set that was made of a list pass as those of the list
pub list_all-items : (test : ℕ → Bool) (xs : List ℕ) → list_all test (set.items (set.from_list {R = nat_cmp} xs)) ≡ list_all test xs
list_all-items test xs =
    list_all_same (eq_by_cmp nat_cmp) tied_equal tied_itself test (set.items (set.from_list {R = nat_cmp} xs)) xs
    (λ x. sym (set.contains-items (set.from_list {R = nat_cmp} xs) x) ∙ set.contains-from_list nat_cmp_total xs x)

-- a set has what is among its elements
pub contains-among : (s : set.FinSet nat_cmp) (x : ℕ) → set.contains s x ≡ list_any (nat_eq x) (set.items s)
contains-among s x = set.contains-items s x ∙ (λ i. list_any (λ y. unsigned_tied x y i) (set.items s))

-- a set that was made of a list has the elements of the list
pub contains-made : (xs : List ℕ) (x : ℕ) → set.contains (set.from_list {R = nat_cmp} xs) x ≡ list_any (nat_eq x) xs
contains-made xs x = set.contains-from_list nat_cmp_total xs x ∙ (λ i. list_any (λ y. unsigned_tied x y i) xs)

-- a set has one number more once this is put in
pub contains-insert-nat : (s : set.FinSet nat_cmp) (n x : ℕ) → set.contains (set.insert s n) x ≡ (nat_eq x n || set.contains s x)
contains-insert-nat s n x = set.contains-insert nat_cmp_total s n x ∙ ap (λ b. b || set.contains s x) (unsigned_tied x n)
