-- Lists in order that have each number as often as each other are one list.
use Rattle.std.proofs.Common.{◌≡◌, ℕ, zero, suc, ◌+◌, ◌-◌, ◌<◌, ◌≤◌, Bool, true, false, ◌&&◌, cond, List, [], ◌∷◌, ◌++◌, length, filter, get_or, nat_eq, nat_lt, All, refl, sym, ap, ◌∙◌, inl, inr, arith}
use Rattle.std.specs.List.{count_by}
use Rattle.std.specs.List.Sorted.{IsNonDecreasing}
use Rattle.std.proofs.lemmas.Bool.{cases_order, and_left, eq-eqb, ne_eqb, lt-ltb, le-ltb}
use Rattle.std.proofs.lemmas.List.{get_or_push, length_push}
use Rattle.std.proofs.lemmas.List.Elements.{All-head, All-tail, filter-append}
use Rattle.std.proofs.lemmas.List.Sums.{sum_by-cons, sum_by-append}
use Rattle.std.proofs.lemmas.List.Sorted.{IsNonDecreasingBy-drop, IsNonDecreasingBy-push}
use Rattle.std.proofs.lemmas.List.Kept.{IsNonDecreasingBy-filter}
use Rattle.sd_num.specs.Lists.{below}
use Rattle.sd_num.specs.Counts.{one_if}
use Rattle.sd_checker.specs.check_hit.Spans.{picked}
use Rattle.sd_checker.proofs.check_hit.Picked.{picked_more}

-- how often a number comes in a list
abbrev pub times : ℕ → List ℕ → ℕ
times v xs = count_by (nat_eq v) xs

times-cons : (v x : ℕ) (xs : List ℕ) → times v (x ∷ xs) ≡ one_if (nat_eq v x) + times v xs
times-cons v x xs = sum_by-cons (λ y. one_if (nat_eq v y)) x xs

times-append : (v : ℕ) (xs ys : List ℕ) → times v (xs ++ ys) ≡ times v xs + times v ys
times-append v xs ys = sum_by-append (λ y. one_if (nat_eq v y)) xs ys

-- what is less than all is none of them
times_low : (v : ℕ) (xs : List ℕ) → All (λ x. v < x) xs → times v xs ≡ 0
times_low v [] low = refl
times_low v (x ∷ xs) low =
    let first = All-head (λ x. v < x) x xs low in
    times-cons v x xs ∙ rw (ne_eqb v x (λ same. omega arith), times_low v xs (All-tail (λ x. v < x) x xs low)) refl

-- the first of a list comes once at least
times_first : (x : ℕ) (xs : List ℕ) → 1 ≤ times x (x ∷ xs)
times_first x xs = let front : one_if (nat_eq x x) ≡ 1 = ap one_if (eq-eqb x x refl) in omega (arith, times-cons x x xs, front)

-- a number less than the first of a list in order is not in it
times_below : (v y : ℕ) (ys : List ℕ) → IsNonDecreasing (y ∷ ys) → v < y → times v (y ∷ ys) ≡ 0
times_below v y ys sorted less = times_low v (y ∷ ys) (λ k d within. (let up = sorted 0 k d (omega arith) within in omega arith))

pub same_sorted : (xs ys : List ℕ) → IsNonDecreasing xs → IsNonDecreasing ys → ((v : ℕ) → times v xs ≡ times v ys) → xs ≡ ys
same_sorted [] [] first second same = refl
same_sorted [] (y ∷ ys) first second same = absurd (omega (arith, same y, times_first y ys))
same_sorted (x ∷ xs) [] first second same = absurd (omega (arith, same x, times_first x xs))
same_sorted (x ∷ xs) (y ∷ ys) first second same =
    elim (cases_order x y) [
      | inl equal ↦
          (let rest : xs ≡ ys =
          same_sorted xs ys (IsNonDecreasingBy-drop (λ (n : ℕ). n) 1 (x ∷ xs) first) (IsNonDecreasingBy-drop (λ (n : ℕ). n) 1 (y ∷ ys) second)
          (λ v. (let front : one_if (nat_eq v x) ≡ one_if (nat_eq v y) = ap (λ z. one_if (nat_eq v z)) equal in
          omega (arith, same v, times-cons v x xs, times-cons v y ys, front)))
          in
          cc)
      | inr (inl less) ↦ absurd (omega (arith, same x, times_first x xs, times_below x y ys second less))
      | inr (inr more) ↦ absurd (omega (arith, same y, times_first y ys, times_below y x xs first more))
    ]

-- the numbers below a bound ascend
below_rises : (n : ℕ) → IsNonDecreasing (below n)
below_rises zero = λ i j d order within. absurd (omega arith)
below_rises (suc n) = IsNonDecreasingBy-push (λ (x : ℕ). x) (below n) n (below_rises n) (λ d some. last n d some)
  where
    last : (n d : ℕ) → 0 < length (below n) → get_or (below n) (length (below n) - 1) d ≤ n
    last zero d some = absurd (omega arith)
    last (suc n) d some = omega (arith, get_or_push (below n) n d (length (below n ++ n ∷ []) - 1) (omega (arith, length_push (below n) n)))

pub filtered_rises : (test : ℕ → Bool) (n : ℕ) → IsNonDecreasing (filter test (below n))
filtered_rises test n = IsNonDecreasingBy-filter (λ (x : ℕ). x) test (below n) (below_rises n)

-- a number that passes, as a list
times_one : (v x : ℕ) (t b : Bool) → nat_eq v x ≡ b → times v (cond t (x ∷ []) []) ≡ cond b (one_if t) 0
times_one v x true b is = let same : one_if (nat_eq v x) ≡ one_if b = ap one_if is in omega (arith, times-cons v x [], same)
times_one v x false true is = refl
times_one v x false false is = refl

-- of the numbers below n that pass each comes once
pub times_filtered : (v : ℕ) (test : ℕ → Bool) (n : ℕ) → times v (filter test (below n)) ≡ one_if (nat_lt v n && test v)
times_filtered v test zero = sym (ap one_if (and_left (nat_lt v 0) (test v) (le-ltb v 0 (omega arith))))
times_filtered v test (suc n) =
    ap (times v) (filter-append test (below n) (n ∷ []))
    ∙ times-append v (filter test (below n)) (filter test (n ∷ []))
    ∙ elim (cases_order v n) [
      | inl same ↦
          (let upto : one_if (nat_lt v n && test v) ≡ 0 = ap (λ t. one_if (t && test v)) (le-ltb v n (omega arith)) in
          let all : one_if (nat_lt v (suc n) && test v) ≡ one_if (test v) = ap (λ t. one_if (t && test v)) (lt-ltb v (suc n) (omega arith)) in
          let here : one_if (test n) ≡ one_if (test v) = ap (λ x. one_if (test x)) (sym same) in
          omega (arith, times_filtered v test n, upto, all, here, times_one v n (test n) true (eq-eqb v n same)))
      | inr (inl less) ↦
          (let upto : one_if (nat_lt v n && test v) ≡ one_if (test v) = ap (λ t. one_if (t && test v)) (lt-ltb v n less) in
          let all : one_if (nat_lt v (suc n) && test v) ≡ one_if (test v) = ap (λ t. one_if (t && test v)) (lt-ltb v (suc n) (omega arith)) in
          omega (arith, times_filtered v test n, upto, all, times_one v n (test n) false (ne_eqb v n (λ same. omega arith))))
      | inr (inr more) ↦
          (let upto : one_if (nat_lt v n && test v) ≡ 0 = ap (λ t. one_if (t && test v)) (le-ltb v n (omega arith)) in
          let all : one_if (nat_lt v (suc n) && test v) ≡ 0 = ap (λ t. one_if (t && test v)) (le-ltb v (suc n) (omega arith)) in
          omega (arith, times_filtered v test n, upto, all, times_one v n (test n) false (ne_eqb v n (λ same. omega arith))))
    ]

-- how often a number is picked that stands at one place alone
pub times_picked : (v place : ℕ) (order : List ℕ) (test : ℕ → Bool) (m : ℕ) → ((k : ℕ) → k < m → nat_eq v (get_or order k 0) ≡ nat_eq place k)
    → times v (picked order test m) ≡ one_if (nat_lt place m && test place)
times_picked v place order test zero stands = sym (ap one_if (and_left (nat_lt place 0) (test place) (le-ltb place 0 (omega arith))))
times_picked v place order test (suc m) stands =
    let before = times_picked v place order test m (λ k earlier. stands k (omega arith)) in
    let at = stands m (omega arith) in
    ap (times v) (picked_more order test m)
    ∙ times-append v (picked order test m) (cond (test m) (get_or order m 0 ∷ []) [])
    ∙ elim (cases_order place m) [
      | inl same ↦
          (let upto : one_if (nat_lt place m && test place) ≡ 0 = ap (λ t. one_if (t && test place)) (le-ltb place m (omega arith)) in
          let all : one_if (nat_lt place (suc m) && test place) ≡ one_if (test place) =
          ap (λ t. one_if (t && test place)) (lt-ltb place (suc m) (omega arith)) in
          let here : one_if (test m) ≡ one_if (test place) = ap (λ x. one_if (test x)) (sym same) in
          omega (arith, before, upto, all, here, times_one v (get_or order m 0) (test m) true (at ∙ eq-eqb place m same)))
      | inr (inl less) ↦
          (let upto : one_if (nat_lt place m && test place) ≡ one_if (test place) = ap (λ t. one_if (t && test place)) (lt-ltb place m less) in
          let all : one_if (nat_lt place (suc m) && test place) ≡ one_if (test place) =
          ap (λ t. one_if (t && test place)) (lt-ltb place (suc m) (omega arith)) in
          omega (arith, before, upto, all, times_one v (get_or order m 0) (test m) false (at ∙ ne_eqb place m (λ same. omega arith))))
      | inr (inr more) ↦
          (let upto : one_if (nat_lt place m && test place) ≡ 0 = ap (λ t. one_if (t && test place)) (le-ltb place m (omega arith)) in
          let all : one_if (nat_lt place (suc m) && test place) ≡ 0 = ap (λ t. one_if (t && test place)) (le-ltb place (suc m) (omega arith)) in
          omega (arith, before, upto, all, times_one v (get_or order m 0) (test m) false (at ∙ ne_eqb place m (λ same. omega arith))))
    ]

-- a number that stands nowhere is not picked
pub times_absent : (v : ℕ) (order : List ℕ) (test : ℕ → Bool) (m : ℕ) → ((k : ℕ) → k < m → nat_eq v (get_or order k 0) ≡ false)
    → times v (picked order test m) ≡ 0
times_absent v order test zero nowhere = refl
times_absent v order test (suc m) nowhere =
    ap (times v) (picked_more order test m) ∙ times-append v (picked order test m) (cond (test m) (get_or order m 0 ∷ []) [])
    ∙ omega (arith, times_absent v order test m (λ k before. nowhere k (omega arith)), times_one v (get_or order m 0) (test m) false (nowhere m (omega arith)))
