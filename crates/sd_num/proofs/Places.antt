-- Elements of lists, by place and by membership.
use Rattle.std.specs.Prelude.{◌≡◌, ℕ, zero, suc, ◌<◌, Bool, true, false, ◌||◌, List, [], ◌∷◌, ◌++◌, length, nat_eq, filter, slice_get, Some, if◌then◌else◌, ◌⊎◌}
use Rattle.std.proofs.Common.{refl, sym, ap, ◌∙◌, ◌≢◌, subst, arith, inl, inr, set}
use Rattle.std.proofs.lemmas.List.{get_or-set_same, get_or-set_other}
use Rattle.std.proofs.Math.ListN.{length-set}
use Rattle.std.proofs.lemmas.List.Folds.{list_any-append}
use Rattle.std.proofs.lemmas.Bool.{or_left, or_right, or_cases, cases_lt, eqb-true, eq-eqb, both_ways}
use Rattle.std.proofs.lemmas.Option.{slice_get-get_or, slice_get_past, same_Some}
use Rattle.sd_num.specs.Lists.{has, below}

-- an element at a place is one of the list
pub has_at : (xs : List ℕ) (i x : ℕ) → slice_get xs i ≡ Some x → has xs x ≡ true
has_at [] i x at = cc
has_at (y ∷ ys) zero x at = or_left (nat_eq x y) (has ys x) (eq-eqb x y (sym (same_Some y x at)))
has_at (y ∷ ys) (suc i) x at = or_right (nat_eq x y) (has ys x) (has_at ys i x at)

-- one of the list is at a place
pub at_has : (xs : List ℕ) (x : ℕ) → has xs x ≡ true → (i : ℕ) × (slice_get xs i ≡ Some x)
at_has [] x there = cc
at_has (y ∷ ys) x there = elim (or_cases (nat_eq x y) (has ys x) there) [
  | inl here ↦ (0, ap (λ (n : ℕ). Some n) (sym (eqb-true x y here)))
  | inr later ↦ (let more : (i : ℕ) × (slice_get ys i ≡ Some x) = at_has ys x later in (suc more.0, more.1))
]

-- what a filter keeps
pub kept_parts : (p : ℕ → Bool) (xs : List ℕ) (x : ℕ) → has (filter p xs) x ≡ true → (p x ≡ true) × (has xs x ≡ true)
kept_parts p [] x there = cc
kept_parts p (y ∷ ys) x there = by (p y) refl there (kept_parts p ys x)
  where
    by : (b : Bool) → p y ≡ b → has (if b then y ∷ filter p ys else filter p ys) x ≡ true
        → (has (filter p ys) x ≡ true → (p x ≡ true) × (has ys x ≡ true)) → (p x ≡ true) × (has (y ∷ ys) x ≡ true)
    by true passes there rest = elim (or_cases (nat_eq x y) (has (filter p ys) x) there) [
      | inl here ↦ (ap p (eqb-true x y here) ∙ passes, or_left (nat_eq x y) (has ys x) here)
      | inr later ↦ (let more : (p x ≡ true) × (has ys x ≡ true) = rest later in (more.0, or_right (nat_eq x y) (has ys x) more.1))
    ]
    by false fails there rest = let more : (p x ≡ true) × (has ys x ≡ true) = rest there in (more.0, or_right (nat_eq x y) (has ys x) more.1)

pub kept_from : (p : ℕ → Bool) (xs : List ℕ) (x : ℕ) → p x ≡ true → has xs x ≡ true → has (filter p xs) x ≡ true
kept_from p [] x passes there = cc
kept_from p (y ∷ ys) x passes there = by (p y) refl (or_cases (nat_eq x y) (has ys x) there) (kept_from p ys x passes)
  where
    by : (b : Bool) → p y ≡ b → (nat_eq x y ≡ true) ⊎ (has ys x ≡ true) → (has ys x ≡ true → has (filter p ys) x ≡ true)
        → has (if b then y ∷ filter p ys else filter p ys) x ≡ true
    by true it (inl here) rest = or_left (nat_eq x y) (has (filter p ys) x) here
    by true it (inr later) rest = or_right (nat_eq x y) (has (filter p ys) x) (rest later)
    by false it (inl here) rest = absurd (both_ways (p y) it (ap p (sym (eqb-true x y here)) ∙ passes))
    by false it (inr later) rest = rest later

-- the last of a list
pub has_last : (xs : List ℕ) (x : ℕ) → has (xs ++ x ∷ []) x ≡ true
has_last [] x = or_left (nat_eq x x) false (eq-eqb x x refl)
has_last (y ∷ ys) x = or_right (nat_eq x y) (has (ys ++ x ∷ []) x) (has_last ys x)

pub has_before : (xs : List ℕ) (y x : ℕ) → has xs x ≡ true → has (xs ++ y ∷ []) x ≡ true
has_before [] y x there = cc
has_before (z ∷ zs) y x there = elim (or_cases (nat_eq x z) (has zs x) there) [
  | inl here ↦ or_left (nat_eq x z) (has (zs ++ y ∷ []) x) here
  | inr later ↦ or_right (nat_eq x z) (has (zs ++ y ∷ []) x) (has_before zs y x later)
]

pub has_cases : (xs : List ℕ) (y x : ℕ) → has (xs ++ y ∷ []) x ≡ true → (has xs x ≡ true) ⊎ (x ≡ y)
has_cases [] y x there = elim (or_cases (nat_eq x y) false there) [ inl here ↦ inr (eqb-true x y here) | inr later ↦ cc ]
has_cases (z ∷ zs) y x there = elim (or_cases (nat_eq x z) (has (zs ++ y ∷ []) x) there) [
  | inl here ↦ inl (or_left (nat_eq x z) (has zs x) here)
  | inr later ↦ elim (has_cases zs y x later) [ inl more ↦ inl (or_right (nat_eq x z) (has zs x) more) | inr same ↦ inr same ]
]

-- places of a longer list
pub at_before : {X : Type 0} (xs : List X) (y : X) (i : ℕ) (x : X) → slice_get xs i ≡ Some x → slice_get (xs ++ y ∷ []) i ≡ Some x
at_before [] y i x at = cc
at_before (z ∷ zs) y zero x at = at
at_before (z ∷ zs) y (suc i) x at = at_before zs y i x at

pub at_cases : {X : Type 0} (xs : List X) (y : X) (i : ℕ) (x : X) → slice_get (xs ++ y ∷ []) i ≡ Some x
    → (slice_get xs i ≡ Some x) ⊎ ((i ≡ length xs) × (x ≡ y))
at_cases [] y zero x at = inr (refl, sym (same_Some y x at))
at_cases [] y (suc i) x at = cc
at_cases (z ∷ zs) y zero x at = inl at
at_cases (z ∷ zs) y (suc i) x at = elim (at_cases zs y i x at) [ inl more ↦ inl more | inr last ↦ inr (omega (arith, last.0), last.1) ]

pub at_last : {X : Type 0} (xs : List X) (y : X) → slice_get (xs ++ y ∷ []) (length xs) ≡ Some y
at_last [] y = refl
at_last (z ∷ zs) y = at_last zs y

-- numbers below a bound
pub has_below : (n x : ℕ) → x < n → has (below n) x ≡ true
has_below zero x within = absurd (omega arith)
has_below (suc n) x within = elim (cases_lt x n) [
  | inl less ↦ has_before (below n) n x (has_below n x less)
  | inr most ↦ (let same : n ≡ x = omega arith in subst (λ y. has (below n ++ y ∷ []) x ≡ true) (sym same) (has_last (below n) x))
]

pub below_has : (n x : ℕ) → has (below n) x ≡ true → x < n
below_has zero x there = cc
below_has (suc n) x there = elim (has_cases (below n) n x there) [
  | inl more ↦ (let less = below_has n x more in omega arith)
  | inr same ↦ omega arith
]

-- one number more
pub has_more : (xs : List ℕ) (x k : ℕ) → has (xs ++ x ∷ []) k ≡ (has xs k || nat_eq k x)
has_more xs x k = list_any-append (nat_eq k) xs (x ∷ []) ∙ ap (λ t. has xs k || t) (by_test (nat_eq k x))
  where
    by_test : (t : Bool) → (t || false) ≡ t
    by_test true = refl
    by_test false = refl

-- an element that is written, and the others
pub at_written : {X : Type 0} (xs : List X) (i : ℕ) (y : X) → i < length xs → slice_get (set xs i y) i ≡ Some y
at_written xs i y within = slice_get-get_or (set xs i y) i y (rw (length-set xs i y) within) ∙ ap Some (get_or-set_same xs i y y within)

pub at_unwritten : {X : Type 0} (xs : List X) (i j : ℕ) (y : X) → j ≢ i → slice_get (set xs i y) j ≡ slice_get xs j
at_unwritten xs i j y apart = elim (cases_lt j (length xs)) [
  | inl inside ↦ slice_get-get_or (set xs i y) j y (rw (length-set xs i y) inside) ∙ ap Some (get_or-set_other xs i j y y apart)
      ∙ sym (slice_get-get_or xs j y inside)
  | inr past ↦ slice_get_past (set xs i y) j (rw (length-set xs i y) past) ∙ sym (slice_get_past xs j past)
]
