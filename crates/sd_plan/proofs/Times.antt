-- How often a number stands in a list.
use Rattle.std.proofs.Common.{◌≡◌, ◌≢◌, ℕ, zero, suc, ◌+◌, ◌<◌, ◌≤◌, inl, inr, Bool, true, false, ◌||◌, cond, List, [], ◌∷◌, ◌++◌, length, filter, flat_map, get_or, take, All, nat_eq, Some, refl, sym, ap, ◌∙◌, subst, arith}
use Rattle.std.specs.List.{slice_get, slice_range}
use Rattle.std.proofs.lemmas.Bool.{cases_order, cases_lt, eqb-true, eq-eqb, ne_eqb}
use Rattle.std.proofs.lemmas.List.{get_or-drop, get_or-take}
use Rattle.std.proofs.lemmas.List.Elements.{filter-append}
use Rattle.std.proofs.lemmas.Map.Keys.{IsDistinct-from_apart}
use Rattle.std.proofs.lemmas.Map.Steps.{length-le_from_distinct_below}
use Rattle.std.proofs.lemmas.Option.{slice_get_within, slice_get-get_or, get_or_from_slice_get}
use Rattle.std.proofs.lemmas.Slice.{between_is}
use Rattle.sd_num.specs.Lists.{below, has}
use Rattle.sd_num.specs.Counts.{one_if}

counted : (x y : ℕ) → y ≡ x → one_if (nat_eq x y) ≡ 1
counted x y same = ap one_if (eq-eqb x y (sym same))

-- how often x is one of the numbers
abbrev pub times : ℕ → List ℕ → ℕ
times x [] = 0
times x (y ∷ ys) = cond (nat_eq x y) 1 0 + times x ys

-- the sum of what f gives
abbrev pub total : (ℕ → ℕ) → List ℕ → ℕ
total f [] = 0
total f (c ∷ cs) = f c + total f cs

times-append : (x : ℕ) (xs ys : List ℕ) → times x (xs ++ ys) ≡ times x xs + times x ys
times-append x [] ys = omega arith
times-append x (y ∷ xs) ys = omega (arith, times-append x xs ys)

-- in lists one after another it stands as often as in all of them
pub times-flat : (x : ℕ) (f : ℕ → List ℕ) (cs : List ℕ) → times x (flat_map f cs) ≡ total (λ c. times x (f c)) cs
times-flat x f [] = refl
times-flat x f (c ∷ cs) = times-append x (f c) (flat_map f cs) ∙ ap (λ n. times x (f c) + n) (times-flat x f cs)

total-append : (f : ℕ → ℕ) (xs ys : List ℕ) → total f (xs ++ ys) ≡ total f xs + total f ys
total-append f [] ys = omega arith
total-append f (x ∷ xs) ys = omega (arith, total-append f xs ys)

-- one more of the numbers that pass
total_more : (f : ℕ → ℕ) (p : ℕ → Bool) (n : ℕ) → total f (filter p (below (suc n))) ≡ total f (filter p (below n)) + cond (p n) (f n) 0
total_more f p n =
    ap (total f) (filter-append p (below n) (n ∷ [])) ∙ total-append f (filter p (below n)) (filter p (n ∷ []))
    ∙ ap (λ m. total f (filter p (below n)) + m) (by_test (p n))
  where
    by_test : (b : Bool) → total f (cond b (n ∷ []) []) ≡ cond b (f n) 0
    by_test true = omega arith
    by_test false = refl

-- where f gives nothing there is nothing
pub total_none : (f : ℕ → ℕ) (p : ℕ → Bool) (n : ℕ) → ((c : ℕ) → c < n → p c ≡ true → f c ≡ 0) → total f (filter p (below n)) ≡ 0
total_none f p zero none = refl
total_none f p (suc n) none =
    total_more f p n ∙ ap (λ m. m + cond (p n) (f n) 0) (total_none f p n (λ c less passes. none c (omega arith) passes)) ∙ by_test (p n) (none n (omega arith))
  where
    by_test : (b : Bool) → (b ≡ true → f n ≡ 0) → 0 + cond b (f n) 0 ≡ 0
    by_test true none = omega (arith, none refl)
    by_test false none = refl

-- where f gives something of one alone there is just this
pub total_one : (f : ℕ → ℕ) (p : ℕ → Bool) (n b : ℕ) → b < n → p b ≡ true → ((c : ℕ) → c < n → p c ≡ true → c ≢ b → f c ≡ 0)
    → total f (filter p (below n)) ≡ f b
total_one f p zero b within passes others = absurd (omega arith)
total_one f p (suc n) b within passes others =
    elim (cases_lt b n) [
      | inl less ↦
          (total_more f p n ∙ ap (λ m. m + cond (p n) (f n) 0) (total_one f p n b less passes (λ c inside other apart. others c (omega arith) other apart))
          ∙ last (p n) (λ other. others n (omega arith) other (λ same. absurd (omega arith))))
      | inr past ↦
          (let same : b ≡ n = omega arith in
          total_more f p n
          ∙ ap (λ m. m + cond (p n) (f n) 0) (total_none f p n (λ c inside other. others c (omega arith) other (λ equal. absurd (omega arith))))
          ∙ ap (λ t. 0 + cond t (f n) 0) (subst (λ x. p x ≡ true) same passes) ∙ zero_more (f n) ∙ ap f (sym same))
    ]
  where
    last : (t : Bool) → (t ≡ true → f n ≡ 0) → f b + cond t (f n) 0 ≡ f b
    last true none = omega (arith, none refl)
    last false none = omega arith

    zero_more : (m : ℕ) → 0 + m ≡ m
    zero_more m = omega arith

-- what is there stands there once at least
pub has_times : (xs : List ℕ) (x : ℕ) → has xs x ≡ true → 1 ≤ times x xs
has_times [] x there = cc
has_times (y ∷ ys) x there = by_test (nat_eq x y) there (has_times ys x)
  where
    by_test : (b : Bool) → (b || has ys x) ≡ true → (has ys x ≡ true → 1 ≤ times x ys) → 1 ≤ cond b 1 0 + times x ys
    by_test true there more = omega arith
    by_test false there more = omega (arith, more there)

pub times_has : (xs : List ℕ) (x : ℕ) → 1 ≤ times x xs → has xs x ≡ true
times_has [] x some = absurd (omega arith)
times_has (y ∷ ys) x some = by_test (nat_eq x y) some (times_has ys x)
  where
    by_test : (b : Bool) → 1 ≤ cond b 1 0 + times x ys → (1 ≤ times x ys → has ys x ≡ true) → (b || has ys x) ≡ true
    by_test true some more = refl
    by_test false some more = more (omega arith)

-- it has a place
pub times_place : (xs : List ℕ) (x : ℕ) → 1 ≤ times x xs → (i : ℕ) × (slice_get xs i ≡ Some x)
times_place [] x some = absurd (omega arith)
times_place (y ∷ ys) x some = by_test (nat_eq x y) refl some (times_place ys x)
  where
    by_test : (b : Bool) → nat_eq x y ≡ b → 1 ≤ cond b 1 0 + times x ys → (1 ≤ times x ys → (i : ℕ) × (slice_get ys i ≡ Some x))
        → (i : ℕ) × (slice_get (y ∷ ys) i ≡ Some x)
    by_test true here some more = (0, ap (λ z. Some z) (sym (eqb-true x y here)))
    by_test false apart some more = let (i, at) = more (omega arith) in (suc i, at)

pub place_times : (xs : List ℕ) (i x : ℕ) → slice_get xs i ≡ Some x → 1 ≤ times x xs
place_times [] i x at = cc
place_times (y ∷ ys) zero x at =
    let same : y ≡ x = cc in
    let here : one_if (nat_eq x y) ≡ 1 = counted x y same in
    omega arith
place_times (y ∷ ys) (suc i) x at = omega (arith, place_times ys i x at)

-- at two places it stands twice
twice : (xs : List ℕ) (i j x : ℕ) → i < j → slice_get xs i ≡ Some x → slice_get xs j ≡ Some x → 2 ≤ times x xs
twice [] i j x less first second = cc
twice (y ∷ ys) zero zero x less first second = absurd (omega arith)
twice (y ∷ ys) zero (suc j) x less first second =
    let same : y ≡ x = cc in
    let here : one_if (nat_eq x y) ≡ 1 = counted x y same in
    let more : 1 ≤ times x ys = place_times ys j x second in
    omega arith
twice (y ∷ ys) (suc i) zero x less first second = absurd (omega arith)
twice (y ∷ ys) (suc i) (suc j) x less first second = omega (arith, twice ys i j x (omega arith) first second)

-- what stands once has one place
pub one_place : (xs : List ℕ) (i j x : ℕ) → times x xs ≤ 1 → slice_get xs i ≡ Some x → slice_get xs j ≡ Some x → i ≡ j
one_place xs i j x once first second =
    elim (cases_order i j) [
      | inl same ↦ same
      | inr other ↦ elim other [
        | inl less ↦ (let two = twice xs i j x less first second in
            absurd (omega arith))
        | inr more ↦ (let two = twice xs j i x more second first in absurd (omega arith))
      ]
    ]

-- numbers below a bound of which none stands twice are as many at most
pub few : (xs : List ℕ) (n : ℕ) → ((x : ℕ) → times x xs ≤ 1) → ((x : ℕ) → has xs x ≡ true → x < n) → length xs ≤ n
few xs n once within = length-le_from_distinct_below xs n (IsDistinct-from_apart nat_eq xs apart) within
  where
    apart : (i j d : ℕ) → i < j → j < length xs → nat_eq (get_or xs i d) (get_or xs j d) ≡ false
    apart i j d less inside =
        ne_eqb (get_or xs i d) (get_or xs j d) (λ same.
        let equal = one_place xs i j (get_or xs j d) (once (get_or xs j d)) (slice_get-get_or xs i d (omega arith) ∙ ap (λ z. Some z) same)
        (slice_get-get_or xs j d inside) in omega arith)

-- a number below the bound that passes is one of those that do
pub has-filter : (p : ℕ → Bool) (n c : ℕ) → c < n → p c ≡ true → 1 ≤ times c (filter p (below n))
has-filter p zero c within passes = absurd (omega arith)
has-filter p (suc n) c within passes =
    let split = ap (times c) (filter-append p (below n) (n ∷ [])) ∙ times-append c (filter p (below n)) (filter p (n ∷ [])) in
    elim (cases_lt c n) [
      | inl less ↦ omega (arith, split, has-filter p n c less passes)
      | inr past ↦
          (let same : c ≡ n = omega arith in
          let here : times c (filter p (n ∷ [])) ≡ 1 = ap (λ b. times c (cond b (n ∷ []) [])) (subst (λ x. p x ≡ true) same passes)
          ∙ ap (λ b. cond b 1 0 + 0) (eq-eqb c n same) in
          omega (arith, split, here))
    ]

-- what holds of all holds of each
pub of_all : (P : ℕ → Type 0) (xs : List ℕ) (x : ℕ) → All P xs → 1 ≤ times x xs → P x
of_all P xs x each some = let (i, at) = times_place xs x some in subst P (get_or_from_slice_get xs i x 0 at) (each i 0 (slice_get_within xs i x at))

-- an element of a part
pub part_at : (xs : List ℕ) (from to k d : ℕ) → from + k < to → get_or (slice_range xs from to) k d ≡ get_or xs (from + k) d
part_at xs from to k d within = ap (λ ys. get_or ys k d) (between_is xs from to) ∙ get_or-drop from (take to xs) k d ∙ get_or-take to xs (from + k) d within
