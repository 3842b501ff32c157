-- Lemmas that several crates above share.
use Rattle.std.proofs.Common.{◌≡◌, ℕ, nat_eq, sym, ◌∙◌, inl, inr, Bool, true, false, ◌||◌, List, [], ◌∷◌, refl, ap, Option, Some, None, ◌<◌, All, arith, cond, find, ◌-◌, ◌≤◌, length, take, subst, zero, suc, ◌++◌, drop, take-add, drop-drop}
use Rattle.std.proofs.lemmas.Bool.{cases_eq, eq-eqb, ne_eqb, eqb-true, or_cases, and_parts, and_from, or_parts, cases_lt, or_left, or_right, both_ways, false_from_ne_true}
use Rattle.std.specs.List.{list_any, slice_range, list_all, AllByRecursion}
use Rattle.std.proofs.lemmas.List.Elements.{All-head, All-tail}
use Rattle.std.specs.Option.{option_or}
use Rattle.std.specs.Prelude.{is_some, option_and_then, ◌&&◌, ◌+◌, ◌/◌, replicate}
use Rattle.std.proofs.lemmas.List.{length-take, length-drop}
use Rattle.std.proofs.lemmas.Slice.{between_is}
use Rattle.std.proofs.lemmas.List.Folds.{list_all-append, list_any-append}
use Rattle.sd_num.specs.Lists.{same_number, has, below, at_place, follow}

pub equal_swap : (a b : ℕ) → nat_eq a b ≡ nat_eq b a
equal_swap a b =
    elim (cases_eq a b)
    [ inl same ↦ (eq-eqb a b same ∙ sym (eq-eqb b a (sym same))) | inr other ↦ (ne_eqb a b other ∙ sym (ne_eqb b a (λ same. other (sym same)))) ]

-- either test of each
pub any_either : {X : Type 0} (p q : X → Bool) (xs : List X) → list_any (λ x. p x || q x) xs ≡ (list_any p xs || list_any q xs)
any_either p q [] = refl
any_either p q (x ∷ xs) = ap (λ t. (p x || q x) || t) (any_either p q xs) ∙ regroup (p x) (q x) (list_any p xs) (list_any q xs)
  where
    regroup : (a b c d : Bool) → ((a || b) || (c || d)) ≡ ((a || c) || (b || d))
    regroup true b c d = refl
    regroup false true true d = refl
    regroup false true false d = refl
    regroup false false c d = refl

pub none_any : {X : Type 0} (xs : List X) → list_any (λ (x : X). false) xs ≡ false
none_any [] = refl
none_any (x ∷ xs) = none_any xs

pub any_same : {X : Type 0} (p q : X → Bool) (xs : List X) → ((x : X) → p x ≡ q x) → list_any p xs ≡ list_any q xs
any_same p q [] same = refl
any_same p q (x ∷ xs) same = ap (λ t. t || list_any p xs) (same x) ∙ ap (λ t. q x || t) (any_same p q xs same)

-- a number is the one that is there
pub same_number-some : (o : Option ℕ) (j : ℕ) → same_number o j ≡ true → o ≡ Some j
same_number-some None j same = cc
same_number-some (Some i) j same = ap Some (eqb-true i j same)

-- a number of a list is below what all are below
pub has_within : (n : ℕ) (xs : List ℕ) (e : ℕ) → All (λ x. x < n) xs → has xs e ≡ true → e < n
has_within n [] e all there = cc
has_within n (x ∷ xs) e all there =
    elim (or_cases (nat_eq e x) (has xs e) there) [
      | inl here ↦ (let same = eqb-true e x here in let first = All-head (λ y. y < n) x xs all in omega arith)
      | inr more ↦ has_within n xs e (All-tail (λ y. y < n) x xs all) more
    ]

-- tests that agree find the same
pub find_same : {X : Type 0} (p q : X → Bool) (xs : List X) → ((x : X) → p x ≡ q x) → find p xs ≡ find q xs
find_same p q [] same = refl
find_same p q (x ∷ xs) same = ap (λ t. cond t (Some x) (find p xs)) (same x) ∙ ap (λ o. cond (q x) (Some x) o) (find_same p q xs same)

pub first_none : {X : Type 0} (a b : Option X) → option_or a b ≡ None → a ≡ None
first_none None b none = refl
first_none (Some x) b none = cc

-- two tests that pass together are one
pub same_from_both : (a b : Bool) → (a ≡ true → b ≡ true) → (b ≡ true → a ≡ true) → a ≡ b
same_from_both true b there back = sym (there refl)
same_from_both false true there back = back refl
same_from_both false false there back = refl

pub or_first : (a b : Bool) → (a || b) ≡ false → a ≡ false
or_first true b neither = neither
or_first false b neither = refl

pub none_if_not_some : {A : Type 0} (o : Option A) → is_some o ≡ false → o ≡ None
none_if_not_some None none = refl
none_if_not_some (Some x) none = cc

pub and_false : (b : Bool) → (b && false) ≡ false
and_false true = refl
and_false false = refl

-- as many as stand between two places
pub part_length : (xs : List ℕ) (from to : ℕ) → to ≤ length xs → length (slice_range xs from to) ≡ to - from
part_length xs from to within =
    let long = length-take to xs in
    ap length (between_is xs from to) ∙ length-drop from (take to xs) ∙ ap (λ n. n - from) (omega (arith, long))

pub some-same_number : (o : Option ℕ) (x : ℕ) → o ≡ Some x → same_number o x ≡ true
some-same_number o x is = subst (λ (q : Option ℕ). same_number q x ≡ true) (sym is) (eq-eqb x x refl)

-- what each element passes, each passes that asks no more
pub all_imply : {X : Type 0} (p q : X → Bool) (xs : List X) → ((x : X) → p x ≡ true → q x ≡ true) → list_all p xs ≡ true → list_all q xs ≡ true
all_imply p q [] imply all = refl
all_imply p q (x ∷ xs) imply all =
    let parts = and_parts (p x) (list_all p xs) all in
    and_from (q x) (list_all q xs) (imply x parts.0) (all_imply p q xs imply parts.1)

pub all_below : (test : ℕ → Bool) (n : ℕ) → ((d : ℕ) → d < n → test d ≡ true) → list_all test (below n) ≡ true
all_below test zero each = refl
all_below test (suc n) each =
    list_all-append test (below n) (n ∷ [])
    ∙ and_from (list_all test (below n)) (test n && true) (all_below test n (λ d within. each d (omega arith)))
    (and_from (test n) true (each n (omega arith)) refl)

pub and_true : (b : Bool) → (b && true) ≡ b
and_true true = refl
and_true false = refl

pub differs : (x : ℕ) (xs : List ℕ) → has xs x ≡ false → AllByRecursion (λ y. nat_eq x y ≡ false) xs
differs x [] none = tt
differs x (y ∷ ys) none = let parts = or_parts (nat_eq x y) (has ys x) none in (parts.0, differs x ys parts.1)

pub any_below_at : (p : ℕ → Bool) (n i : ℕ) → i < n → p i ≡ true → list_any p (below n) ≡ true
any_below_at p zero i less passes = absurd (omega arith)
any_below_at p (suc n) i less passes = list_any-append p (below n) (n ∷ []) ∙ elim (cases_lt i n) [
  | inl before ↦ or_left (list_any p (below n)) (p n || false) (any_below_at p n i before passes)
  | inr last ↦ (let same : n ≡ i = omega arith in or_right (list_any p (below n)) (p n || false) (or_left (p n) false (ap p same ∙ passes)))
]

pub unequal_swap : (a b : ℕ) → nat_eq a b ≡ false → nat_eq b a ≡ false
unequal_swap a b none = false_from_ne_true (nat_eq b a) (λ is. both_ways (nat_eq a b) none (eq-eqb a b (sym (eqb-true b a is))))

pub ceiling_rises : (a b : ℕ) → a ≤ b → (a + 999999) / 1000000 ≤ (b + 999999) / 1000000
ceiling_rises a b le = omega (arith, le)

pub no_acting : (n d : ℕ) → at_place (replicate n false) d false (λ acts. acts) ≡ false
no_acting zero d = refl
no_acting (suc n) zero = refl
no_acting (suc n) (suc d) = no_acting n d

-- bytes up to a place, and from there on
pub range_split : (bytes : List ℕ) (from mid end : ℕ) → from ≤ mid → mid ≤ end
    → slice_range bytes from end ≡ slice_range bytes from mid ++ slice_range bytes mid end
range_split bytes from mid end before behind =
    let all : end - from ≡ (mid - from) + (end - mid) = omega arith in
    let back : from + (mid - from) ≡ mid = omega arith in
    rw (all, take-add (mid - from) (end - mid) (drop from bytes), drop-drop (mid - from) from bytes, back) refl

-- the first step, and those after it
pub follow_first : (f : ℕ → Option ℕ) (n x y : ℕ) → f x ≡ Some y → follow f (suc n) x ≡ follow f n y
follow_first f zero x y is = is
follow_first f (suc n) x y is = ap (option_and_then f) (follow_first f n x y is)
