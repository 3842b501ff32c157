-- The first number that passes a test, among numbers that ascend.
use Rattle.std.proofs.Common.{◌≡◌, ℕ, zero, suc, ◌+◌, ◌<◌, ◌≤◌, Bool, true, false, ◌&&◌, ◌||◌, cond, List, [], ◌∷◌, find, nat_eq, nat_le, Option, Some, None, All, refl, sym, ap, ◌∙◌, inl, inr, arith}
use Rattle.std.specs.Option.{option_or}
use Rattle.std.proofs.lemmas.Bool.{and_parts, leb-true, eq-eqb, eqb-true, cases_lt, cases_Bool, and_left, and_right, and_from, or_cases}
use Rattle.std.proofs.lemmas.List.Folds.{find-append}
use Rattle.sd_num.specs.Lists.{below, has, ascends}
use Rattle.sd_num.proofs.Ascending.{tail_ascends}
use Rattle.sd_num.proofs.Firsts.{find_below_none}
use Rattle.sd_num.proofs.Shared.{has_within}

-- the least that passes
first_below : (test : ℕ → Bool) (k n : ℕ) → k < n → ((x : ℕ) → x < k → test x ≡ false) → test k ≡ true → find test (below n) ≡ Some k
first_below test k zero within fails passes = absurd (omega arith)
first_below test k (suc n) within fails passes =
    find-append test (below n) (n ∷ [])
    ∙ elim (cases_lt k n) [
      | inl earlier ↦ ap (λ o. option_or o (cond (test n) (Some n) None)) (first_below test k n earlier fails passes)
      | inr last ↦
          (let same : n ≡ k = omega arith in
          ap (λ o. option_or o (cond (test n) (Some n) None)) (find_below_none test n (λ x before. fails x (omega arith)))
          ∙ ap (λ x. cond (test x) (Some x) None) same ∙ ap (λ t. cond t (Some k) None) passes)
    ]

-- what follows the first of numbers that ascend is greater
later_greater : (x : ℕ) (xs : List ℕ) (e : ℕ) → ascends (x ∷ xs) ≡ true → has xs e ≡ true → x < e
later_greater x [] e up there = cc
later_greater x (y ∷ ys) e up there =
    let parts : (nat_le (x + 1) y ≡ true) × (ascends (y ∷ ys) ≡ true) = and_parts (nat_le (x + 1) y) (ascends (y ∷ ys)) up in
    let next : x + 1 ≤ y = leb-true (x + 1) y parts.0 in
    elim (or_cases (nat_eq e y) (has ys e) there) [
      | inl here ↦ (let same = eqb-true e y here in omega arith)
      | inr more ↦ omega (arith, later_greater y ys e parts.1 more)
    ]

-- the first of numbers that ascend and pass is the least number that is one of them and passes
record IsLeast (p : ℕ → Bool) (xs : List ℕ) (k : ℕ) : Type 0 where
  there : has xs k ≡ true
  passes : p k ≡ true
  least : (e : ℕ) → e < k → has xs e ≡ true → p e ≡ false

least_found : (p : ℕ → Bool) (xs : List ℕ) (k : ℕ) → ascends xs ≡ true → find p xs ≡ Some k → IsLeast p xs k
least_found p [] k up found = cc
least_found p (x ∷ xs) k up found = by_test (λ found. least_found p xs k (tail_ascends x xs up) found) (p x) refl found
  where
    by_test : (find p xs ≡ Some k → IsLeast p xs k) → (t : Bool) → p x ≡ t → cond t (Some x) (find p xs) ≡ Some k → IsLeast p (x ∷ xs) k
    by_test later true is found =
        let same : x ≡ k = cc in
        record {
          there = ap (λ t. t || has xs k) (eq-eqb k x (sym same));
          passes = ap p (sym same) ∙ is;
          least = λ e before there. elim (or_cases (nat_eq e x) (has xs e) there) [
            | inl here ↦ (let equal = eqb-true e x here in absurd (omega arith))
            | inr more ↦ (let after = later_greater x xs e up more in absurd (omega arith))
          ];
        }
    by_test later false is found =
        let rest = later found in
        record {
          there = ap (λ t. nat_eq k x || t) rest.there ∙ or_true (nat_eq k x);
          passes = rest.passes;
          least = λ e before there. elim (or_cases (nat_eq e x) (has xs e) there) [
            | inl here ↦ ap p (eqb-true e x here) ∙ is
            | inr more ↦ rest.least e before more
          ];
        }
      where
        or_true : (t : Bool) → (t || true) ≡ true
        or_true true = refl
        or_true false = refl

pub none_found : (p : ℕ → Bool) (xs : List ℕ) (e : ℕ) → find p xs ≡ None → has xs e ≡ true → p e ≡ false
none_found p [] e none there = cc
none_found p (x ∷ xs) e none there = by_test (λ none more. none_found p xs e none more) (p x) refl none
  where
    by_test : (find p xs ≡ None → has xs e ≡ true → p e ≡ false) → (t : Bool) → p x ≡ t → cond t (Some x) (find p xs) ≡ None → p e ≡ false
    by_test later true is none = cc
    by_test later false is none =
        elim (or_cases (nat_eq e x) (has xs e) there) [
          | inl here ↦ ap p (eqb-true e x here) ∙ is
          | inr more ↦ later none more
        ]

-- of numbers that ascend, the first that passes is the least below n that is one of them and passes
pub find_among : (p : ℕ → Bool) (xs : List ℕ) (n : ℕ) → ascends xs ≡ true → All (λ x. x < n) xs → find (λ d. has xs d && p d) (below n) ≡ find p xs
find_among p xs n up all = by_found (find p xs) refl
  where
    by_found : (o : Option ℕ) → find p xs ≡ o → find (λ d. has xs d && p d) (below n) ≡ o
    by_found None is =
        find_below_none (λ d. has xs d && p d) n (λ x within. elim (cases_Bool (has xs x)) [
          | inl there ↦ and_right (has xs x) (p x) (none_found p xs x is there)
          | inr apart ↦ and_left (has xs x) (p x) apart
        ])
    by_found (Some k) is =
        let least = least_found p xs k up is in
        first_below (λ d. has xs d && p d) k n (has_within n xs k all least.there)
        (λ x before. elim (cases_Bool (has xs x)) [
          | inl there ↦ and_right (has xs x) (p x) (least.least x before there)
          | inr apart ↦ and_left (has xs x) (p x) apart
        ])
        (and_from (has xs k) (p k) least.there least.passes)
