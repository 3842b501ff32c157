-- Rows that are set one after another, in the order of their devices.
use Rattle.std.proofs.Common.{◌≡◌, ℕ, zero, suc, ◌+◌, List, [], ◌∷◌, ◌++◌, length, replicate, Option, Some, None, set, refl, ap, sym, ◌∙◌, arith, add-zero}
use Rattle.sd_num.specs.Lists.{below, at_place}

-- k numbers from a on
abbrev pub run : ℕ → ℕ → List ℕ
run a zero = []
run a (suc k) = a ∷ run (suc a) k

-- one more number at the end
run-last : (a k : ℕ) → run a (suc k) ≡ run a k ++ (a + k) ∷ []
run-last a zero = rw (add-zero a) refl
run-last a (suc k) = ap (λ (l : List ℕ). a ∷ l) (run-last (suc a) k ∙ ap (λ n. run (suc a) k ++ n ∷ []) (shift a k))
  where
    shift : (a k : ℕ) → suc a + k ≡ a + suc k
    shift a k = omega arith

-- the numbers below n are a run from 0 on
pub below-run : (n : ℕ) → below n ≡ run 0 n
below-run zero = refl
below-run (suc n) = ap (λ (l : List ℕ). l ++ n ∷ []) (below-run n) ∙ ap (λ m. run 0 n ++ m ∷ []) (plus n) ∙ sym (run-last 0 n)
  where
    plus : (n : ℕ) → n ≡ 0 + n
    plus n = omega arith

-- the first k rows, and no further ones
abbrev pub filled : {A : Type 0} → ℕ → List (Option A) → List (Option A)
filled zero [] = []
filled zero (x ∷ xs) = None ∷ filled zero xs
filled (suc k) [] = []
filled (suc k) (x ∷ xs) = x ∷ filled k xs

pub filled-none : {A : Type 0} (xs : List (Option A)) → filled 0 xs ≡ replicate (length xs) None
filled-none [] = refl
filled-none {A = A} (x ∷ xs) = ap (λ (ys : List (Option A)). None ∷ ys) (filled-none xs)

pub filled-all : {A : Type 0} (xs : List (Option A)) → filled (length xs) xs ≡ xs
filled-all [] = refl
filled-all (x ∷ xs) = ap (λ ys. x ∷ ys) (filled-all xs)

-- the next place is free
pub filled-free : {A : Type 0} (k : ℕ) (xs : List (Option A)) → at_place (filled k xs) k None (λ row. row) ≡ None
filled-free zero [] = refl
filled-free (suc k) [] = refl
filled-free zero (x ∷ xs) = refl
filled-free (suc k) (x ∷ xs) = filled-free k xs

-- the next row is set
pub filled-set : {A : Type 0} (k : ℕ) (xs : List (Option A)) (row : A) → at_place xs k None (λ r. r) ≡ Some row
    → set (filled k xs) k (Some row) ≡ filled (suc k) xs
filled-set zero [] row at = cc
filled-set (suc k) [] row at = cc
filled-set zero (x ∷ xs) row at = ap (λ o. o ∷ filled zero xs) (sym at)
filled-set (suc k) (x ∷ xs) row at = ap (λ ys. x ∷ ys) (filled-set k xs row at)

-- where there is no next row, none is set
pub filled-skip : {A : Type 0} (k : ℕ) (xs : List (Option A)) → at_place xs k None (λ r. r) ≡ None → filled (suc k) xs ≡ filled k xs
filled-skip zero [] at = refl
filled-skip (suc k) [] at = refl
filled-skip zero (x ∷ xs) at = ap (λ o. o ∷ filled zero xs) at
filled-skip (suc k) (x ∷ xs) at = ap (λ ys. x ∷ ys) (filled-skip k xs at)
