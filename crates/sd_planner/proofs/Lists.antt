-- Lists of numbers: which they have, and that none stands twice.
use Rattle.std.specs.Prelude.{◌≡◌, ℕ, zero, suc, ◌<◌, ◌≤◌, Bool, true, false, List, [], ◌∷◌, ◌++◌, find, filter, flat_map, nat_eq, Option, Some, None, is_some, slice_get, ◌⊎◌}
use Rattle.std.specs.List.{list_any}
use Rattle.std.specs.Option.{option_or}
use Rattle.std.proofs.Common.{refl, sym, ap, ◌∙◌, subst, arith, inl, inr, cond}
use Rattle.std.proofs.lemmas.Bool.{or_cases, or_left, or_right, both_ways, false_from_ne_true, cases_lt, eqb-true, eq-eqb}
use Rattle.std.proofs.lemmas.List.Folds.{list_any-append, find-append}
use Rattle.std.proofs.lemmas.Option.{same_Some}
use Rattle.sd_num.specs.Lists.{has, below}
use Rattle.sd_num.proofs.Places.{has_at, at_has, kept_parts, kept_from, has_below, below_has}
use Rattle.sd_num.proofs.Distinct.{AreDistinct}
use Rattle.sd_plan.proofs.Numbered.{none_found}
use Rattle.sd_planner.proofs.Elements.{any_found}

-- What a list has

pub has_both : (xs ys : List ℕ) (x : ℕ) → has (xs ++ ys) x ≡ true → (has xs x ≡ true) ⊎ (has ys x ≡ true)
has_both xs ys x there = or_cases (has xs x) (has ys x) (sym (list_any-append (nat_eq x) xs ys) ∙ there)

pub has_left : (xs ys : List ℕ) (x : ℕ) → has xs x ≡ true → has (xs ++ ys) x ≡ true
has_left xs ys x there = list_any-append (nat_eq x) xs ys ∙ or_left (has xs x) (has ys x) there

pub has_right : (xs ys : List ℕ) (x : ℕ) → has ys x ≡ true → has (xs ++ ys) x ≡ true
has_right xs ys x there = list_any-append (nat_eq x) xs ys ∙ or_right (has xs x) (has ys x) there

-- what some element passes
pub any_has : (p : ℕ → Bool) (xs : List ℕ) → list_any p xs ≡ true → (x : ℕ) × (has xs x ≡ true) × (p x ≡ true)
any_has p [] some = cc
any_has p (y ∷ ys) some =
    elim (or_cases (p y) (list_any p ys) some) [
      | inl here ↦ (y, or_left (nat_eq y y) (has ys y) (eq-eqb y y refl), here)
      | inr later ↦ (let found : (x : ℕ) × (has ys x ≡ true) × (p x ≡ true) = any_has p ys later in
          (found.0, or_right (nat_eq found.0 y) (has ys found.0) found.1, found.2))
    ]

pub has_any : (p : ℕ → Bool) (xs : List ℕ) (x : ℕ) → has xs x ≡ true → p x ≡ true → list_any p xs ≡ true
has_any p [] x there passes = cc
has_any p (y ∷ ys) x there passes =
    elim (or_cases (nat_eq x y) (has ys x) there) [
      | inl here ↦ or_left (p y) (list_any p ys) (ap p (sym (eqb-true x y here)) ∙ passes)
      | inr later ↦ or_right (p y) (list_any p ys) (has_any p ys x later passes)
    ]

-- Filters

-- of the numbers below n a filter keeps those that pass
pub has-filter_below : (p : ℕ → Bool) (n x : ℕ) → x < n → has (filter p (below n)) x ≡ p x
has-filter_below p n x within = by (p x) refl
  where
    by : (b : Bool) → p x ≡ b → has (filter p (below n)) x ≡ b
    by true passes = kept_from p (below n) x passes (has_below n x within)
    by false fails = false_from_ne_true (has (filter p (below n)) x) (λ there. both_ways (p x) fails (kept_parts p (below n) x there).0)

-- tests that agree on the elements keep the same
pub filter_same : (p q : ℕ → Bool) (xs : List ℕ) → ((x : ℕ) → has xs x ≡ true → p x ≡ q x) → filter p xs ≡ filter q xs
filter_same p q [] same = refl
filter_same p q (y ∷ ys) same =
    ap (λ (b : Bool). cond b (y ∷ filter p ys) (filter p ys)) (same y (or_left (nat_eq y y) (has ys y) (eq-eqb y y refl)))
    ∙ ap (λ (zs : List ℕ). cond (q y) (y ∷ zs) zs) (filter_same p q ys (λ x there. same x (or_right (nat_eq x y) (has ys x) there)))

-- Lists one after another

pub flat_same : {A : Type 0} (f g : ℕ → List A) (xs : List ℕ) → ((x : ℕ) → has xs x ≡ true → f x ≡ g x) → flat_map f xs ≡ flat_map g xs
flat_same f g [] same = refl
flat_same f g (y ∷ ys) same =
    ap (λ zs. zs ++ flat_map f ys) (same y (or_left (nat_eq y y) (has ys y) (eq-eqb y y refl)))
    ∙ ap (λ zs. g y ++ zs) (flat_same f g ys (λ x there. same x (or_right (nat_eq x y) (has ys x) there)))

pub has_flat : (f : ℕ → List ℕ) (xs : List ℕ) (x : ℕ) → has (flat_map f xs) x ≡ true → (y : ℕ) × (has xs y ≡ true) × (has (f y) x ≡ true)
has_flat f [] x there = cc
has_flat f (y ∷ ys) x there =
    elim (has_both (f y) (flat_map f ys) x there) [
      | inl here ↦ (y, or_left (nat_eq y y) (has ys y) (eq-eqb y y refl), here)
      | inr later ↦ (let found : (z : ℕ) × (has ys z ≡ true) × (has (f z) x ≡ true) = has_flat f ys x later in
          (found.0, or_right (nat_eq found.0 y) (has ys found.0) found.1, found.2))
    ]

pub flat_has : (f : ℕ → List ℕ) (xs : List ℕ) (y x : ℕ) → has xs y ≡ true → has (f y) x ≡ true → has (flat_map f xs) x ≡ true
flat_has f [] y x at there = cc
flat_has f (z ∷ zs) y x at there =
    elim (or_cases (nat_eq y z) (has zs y) at) [
      | inl here ↦ has_left (f z) (flat_map f zs) x (subst (λ w. has (f w) x ≡ true) (eqb-true y z here) there)
      | inr later ↦ has_right (f z) (flat_map f zs) x (flat_has f zs y x later there)
    ]

-- None twice

pub apart_filter : (p : ℕ → Bool) (xs : List ℕ) → AreDistinct xs → AreDistinct (filter p xs)
apart_filter p [] apart = tt
apart_filter p (y ∷ ys) apart = by (p y) (apart_filter p ys apart.1)
  where
    by : (b : Bool) → AreDistinct (filter p ys) → AreDistinct (cond b (y ∷ filter p ys) (filter p ys))
    by true rest = (false_from_ne_true (has (filter p ys) y) (λ there. both_ways (has ys y) apart.0 (kept_parts p ys y there).1), rest)
    by false rest = rest

pub apart_append : (xs ys : List ℕ) → AreDistinct xs → AreDistinct ys → ((x : ℕ) → has xs x ≡ true → has ys x ≡ true → ⊥) → AreDistinct (xs ++ ys)
apart_append [] ys first second none = second
apart_append (x ∷ xs) ys first second none = (
  false_from_ne_true (has (xs ++ ys) x) (λ there. elim (has_both xs ys x there) [
    | inl left ↦ both_ways (has xs x) first.0 left
    | inr right ↦ none x (or_left (nat_eq x x) (has xs x) (eq-eqb x x refl)) right
  ]),
  apart_append xs ys first.1 second (λ z left right. none z (or_right (nat_eq z x) (has xs z) left) right),
)

-- lists of which each element names its own
pub apart_flat : (f : ℕ → List ℕ) (key : ℕ → Option ℕ) (xs : List ℕ) → AreDistinct xs → ((y : ℕ) → has xs y ≡ true → AreDistinct (f y))
    → ((y x : ℕ) → has xs y ≡ true → has (f y) x ≡ true → key x ≡ Some y) → AreDistinct (flat_map f xs)
apart_flat f key [] apart each keys = tt
apart_flat f key (y ∷ ys) apart each keys =
    apart_append (f y) (flat_map f ys) (each y here)
    (apart_flat f key ys apart.1 (λ z there. each z (later z there)) (λ z x there. keys z x (later z there)))
    (λ x first second.
    let found : (z : ℕ) × (has ys z ≡ true) × (has (f z) x ≡ true) = has_flat f ys x second in
    let same : y ≡ found.0 = same_Some y found.0 (sym (keys y x here first) ∙ keys found.0 x (later found.0 found.1) found.2) in
    both_ways (has ys y) apart.0 (subst (λ w. has ys w ≡ true) (sym same) found.1))
  where
    here : has (y ∷ ys) y ≡ true
    here = or_left (nat_eq y y) (has ys y) (eq-eqb y y refl)

    later : (z : ℕ) → has ys z ≡ true → has (y ∷ ys) z ≡ true
    later z there = or_right (nat_eq z y) (has ys z) there

pub apart_below : (n : ℕ) → AreDistinct (below n)
apart_below zero = tt
apart_below (suc n) =
    apart_append (below n) (n ∷ []) (apart_below n) (refl, tt)
    (λ x first second.
    let before : x < n = below_has n x first in
    elim (or_cases (nat_eq x n) false second) [ inl same ↦ (let is : x ≡ n = eqb-true x n same in omega arith) | inr none ↦ both_ways false refl none ])

-- at two places stand two numbers
pub apart_places : (xs : List ℕ) (i j x y : ℕ) → AreDistinct xs → i < j → slice_get xs i ≡ Some x → slice_get xs j ≡ Some y → x ≡ y → ⊥
apart_places [] i j x y apart less first second same = cc
apart_places (z ∷ zs) i zero x y apart less first second same = absurd (omega arith)
apart_places (z ∷ zs) zero (suc j) x y apart less first second same =
    both_ways (has zs z) apart.0 (subst (λ w. has zs w ≡ true) (sym (same_Some z x first ∙ same)) (has_at zs j y second))
apart_places (z ∷ zs) (suc i) (suc j) x y apart less first second same = apart_places zs i j x y apart.1 (omega arith) first second same

-- numbers of which each stands at one place
pub apart_from_places : (xs : List ℕ) → ((i j x : ℕ) → slice_get xs i ≡ Some x → slice_get xs j ≡ Some x → i ≡ j) → AreDistinct xs
apart_from_places [] one = tt
apart_from_places (x ∷ xs) one = (
  false_from_ne_true (has xs x) (λ there.
      let at : (j : ℕ) × (slice_get xs j ≡ Some x) = at_has xs x there in
      let same : 0 ≡ suc at.0 = one 0 (suc at.0) x refl at.1 in
      omega arith),
  apart_from_places xs (λ i j y first second. let same : suc i ≡ suc j = one (suc i) (suc j) y first second in omega arith),
)

-- a list with no element
pub none_nil : (xs : List ℕ) → ((x : ℕ) → has xs x ≡ true → ⊥) → xs ≡ []
none_nil [] none = refl
none_nil (x ∷ xs) none = absurd (none x (or_left (nat_eq x x) (has xs x) (eq-eqb x x refl)))

-- What is found

pub found_has : (p : ℕ → Bool) (xs : List ℕ) (x : ℕ) → find p xs ≡ Some x → (has xs x ≡ true) × (p x ≡ true)
found_has p [] x found = cc
found_has p (y ∷ ys) x found = by (p y) refl found (found_has p ys x)
  where
    by : (b : Bool) → p y ≡ b → cond b (Some y) (find p ys) ≡ Some x → (find p ys ≡ Some x → (has ys x ≡ true) × (p x ≡ true))
        → (has (y ∷ ys) x ≡ true) × (p x ≡ true)
    by true passes found rest = let same : y ≡ x = same_Some y x found in (or_left (nat_eq x y) (has ys x) (eq-eqb x y (sym same)), ap p (sym same) ∙ passes)
    by false fails found rest = let more : (has ys x ≡ true) × (p x ≡ true) = rest found in (or_right (nat_eq x y) (has ys x) more.0, more.1)

pub has_found : (p : ℕ → Bool) (xs : List ℕ) (x : ℕ) → has xs x ≡ true → p x ≡ true → (y : ℕ) × (find p xs ≡ Some y)
has_found p xs x there passes = by (find p xs) refl (sym (any_found p xs) ∙ has_any p xs x there passes)
  where
    by : (o : Option ℕ) → find p xs ≡ o → is_some (find p xs) ≡ true → (y : ℕ) × (find p xs ≡ Some y)
    by None none some = absurd (both_ways (is_some (find p xs)) (ap (λ (o : Option ℕ). is_some o) none) some)
    by (Some y) is some = (y, is)

-- the first of those that a filter keeps
pub find_first : (p : ℕ → Bool) (xs ys : List ℕ) (y : ℕ) → filter p xs ≡ y ∷ ys → find p xs ≡ Some y
find_first p [] ys y is = cc
find_first p (x ∷ xs) ys y is = by (p x) is (find_first p xs ys y)
  where
    by : (b : Bool) → cond b (x ∷ filter p xs) (filter p xs) ≡ y ∷ ys → (filter p xs ≡ y ∷ ys → find p xs ≡ Some y) → cond b (Some x) (find p xs) ≡ Some y
    by true is rest = cc
    by false is rest = rest is

pub find_none : (p : ℕ → Bool) (xs : List ℕ) → filter p xs ≡ [] → find p xs ≡ None
find_none p [] is = refl
find_none p (x ∷ xs) is = by (p x) is (find_none p xs)
  where
    by : (b : Bool) → cond b (x ∷ filter p xs) (filter p xs) ≡ [] → (filter p xs ≡ [] → find p xs ≡ None) → cond b (Some x) (find p xs) ≡ None
    by true is rest = cc
    by false is rest = rest is

-- the least number that passes
pub least_found : (p : ℕ → Bool) (n k : ℕ) → find p (below n) ≡ Some k → (j : ℕ) → j < k → p j ≡ false
least_found p zero k found j less = cc
least_found p (suc n) k found j less = by (find p (below n)) refl (sym (find-append p (below n) (n ∷ [])) ∙ found) (λ before. least_found p n k before j less)
  where
    last : (b : Bool) → cond b (Some n) None ≡ Some k → n ≡ k
    last true is = same_Some n k is
    last false is = cc

    by : (o : Option ℕ) → find p (below n) ≡ o → option_or o (find p (n ∷ [])) ≡ Some k → (find p (below n) ≡ Some k → p j ≡ false) → p j ≡ false
    by None none found rest = let here : n ≡ k = last (p n) found in none_found p n j none (omega arith)
    by (Some x) some found rest = rest (some ∙ found)

pub found_least : (p : ℕ → Bool) (n k : ℕ) → k < n → p k ≡ true → (j : ℕ) × (j ≤ k) × (find p (below n) ≡ Some j)
found_least p n k within passes = by (find p (below n)) refl
  where
    by : (o : Option ℕ) → find p (below n) ≡ o → (j : ℕ) × (j ≤ k) × (find p (below n) ≡ Some j)
    by None none = absurd (both_ways (p k) (none_found p n k none within) passes)
    by (Some j) is =
        elim (cases_lt k j) [
          | inl less ↦ absurd (both_ways (p k) (least_found p n j is k less) passes)
          | inr more ↦ (j, more, is)
        ]

-- an option that holds a number
