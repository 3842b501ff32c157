-- A search among numbers that ascend.
use Rattle.std.proofs.Common.{◌≡◌, ℕ, zero, suc, ◌+◌, ◌<◌, ◌≤◌, true, List, [], ◌∷◌, length, get_or, nat_eq, nat_le, Result, Ok, Err, is_ok, refl, sym, inl, inr, arith}
use Rattle.std.specs.Ordering.{nat_cmp}
use Rattle.std.specs.List.Sorted.{IsBinarySearchResult}
use Rattle.std.specs.Result.{MatchResult}
use Rattle.std.proofs.lemmas.Bool.{and_parts, leb-true, eq-eqb, ne_eqb, cases_lt}
use Rattle.std.proofs.lemmas.List.{get_or_default}
use Rattle.std.proofs.lemmas.List.Folds.{list_any_at, list_any_none}
use Rattle.std.proofs.lemmas.List.Sorted.{searched}
use Rattle.sd_num.specs.Lists.{ascends, has}

-- what follows the first of numbers that ascend ascends
pub tail_ascends : (x : ℕ) (xs : List ℕ) → ascends (x ∷ xs) ≡ true → ascends xs ≡ true
tail_ascends x [] up = refl
tail_ascends x (y ∷ ys) up = (and_parts (nat_le (x + 1) y) (ascends (y ∷ ys)) up).1

-- the first of numbers that ascend is the least
pub first_below : (x : ℕ) (xs : List ℕ) (j : ℕ) → ascends (x ∷ xs) ≡ true → j < length xs → x < get_or xs j 0
first_below x [] j up within = absurd (omega arith)
first_below x (y ∷ ys) zero up within = let next = leb-true (x + 1) y (and_parts (nat_le (x + 1) y) (ascends (y ∷ ys)) up).0 in omega arith
first_below x (y ∷ ys) (suc j) up within =
    let parts : (nat_le (x + 1) y ≡ true) × (ascends (y ∷ ys) ≡ true) = and_parts (nat_le (x + 1) y) (ascends (y ∷ ys)) up in
    omega (arith, leb-true (x + 1) y parts.0, first_below y ys j parts.1 (omega arith))

-- numbers that ascend do not fall
pub rise : (xs : List ℕ) → ascends xs ≡ true → (i j : ℕ) → i ≤ j → j < length xs → get_or xs i 0 ≤ get_or xs j 0
rise [] up i j order within = absurd (omega arith)
rise (x ∷ xs) up zero zero order within = omega arith
rise (x ∷ xs) up zero (suc j) order within = omega (arith, first_below x xs j up (omega arith))
rise (x ∷ xs) up (suc i) zero order within = absurd (omega arith)
rise (x ∷ xs) up (suc i) (suc j) order within = rise xs (tail_ascends x xs up) i j (omega arith) (omega arith)

-- a search among numbers that ascend finds a number exactly where it is one of them
pub is_ok-searched : (xs : List ℕ) (x : ℕ) (found : Result ℕ ℕ) → IsBinarySearchResult (λ y. nat_cmp y x) xs found → ascends xs ≡ true → is_ok found ≡ has xs x
is_ok-searched xs x found result up = by_side found (searched xs x found result (rise xs up))
  where
    by_side : (found : Result ℕ ℕ)
        → MatchResult found (λ i. (i < length xs) × (get_or xs i 0 ≡ x))
        (λ i. (i ≤ length xs) × ((k : ℕ) → k < i → get_or xs k 0 < x) × ((k : ℕ) → i ≤ k → k < length xs → x < get_or xs k 0))
        → is_ok found ≡ has xs x
    by_side (Ok i) at = sym (list_any_at (nat_eq x) xs i 0 at.0 (eq-eqb x (get_or xs i 0) (sym at.1)))
    by_side (Err i) apart =
        sym (list_any_none (nat_eq x) xs (λ k d within. ne_eqb x (get_or xs k d) (λ same.
        let there : get_or xs k d ≡ get_or xs k 0 = get_or_default xs k d 0 within in
        elim (cases_lt k i) [
          | inl before ↦ omega (arith, apart.1 k before)
          | inr after ↦ omega (arith, apart.2 k after within)
        ])))
