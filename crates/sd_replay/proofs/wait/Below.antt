-- Tests of all numbers below a bound: where two tests agree, and one number more.
use Rattle.std.specs.Prelude.{◌≡◌, ℕ, zero, suc, ◌+◌, ◌<◌, ◌≤◌, Bool, true, false, ◌&&◌, ◌||◌, List, [], ◌∷◌, ◌++◌, filter, map, find, count_by, max, Option, Some, None, if◌then◌else◌}
use Rattle.std.specs.List.{list_any}
use Rattle.std.specs.Option.{option_or}
use Rattle.std.proofs.Common.{refl, sym, ap, ◌∙◌, arith, inl, inr, cond}
use Rattle.std.proofs.lemmas.Bool.{cases_lt, cases_Bool, or_from, and_from, false_from_ne_true, and_parts}
use Rattle.std.proofs.lemmas.List.{append-nil, map-append}
use Rattle.std.proofs.lemmas.List.Elements.{filter-append}
use Rattle.std.proofs.lemmas.List.Folds.{find-append, list_any-append}
use Rattle.std.proofs.lemmas.List.Sums.{sum_by_push}
use Rattle.sd_num.specs.Lists.{below, greatest}
use Rattle.sd_num.proofs.Firsts.{find_below_none, find_below_here, NonePasses}

abbrev pub Agree : (ℕ → Bool) → (ℕ → Bool) → ℕ → Type 0
Agree p q n = (i : ℕ) → i < n → p i ≡ q i

pub fewer : (p q : ℕ → Bool) (n : ℕ) → Agree p q (suc n) → Agree p q n
fewer p q n agree i less = agree i (omega arith)

pub same_find : (p q : ℕ → Bool) (n : ℕ) → Agree p q n → find p (below n) ≡ find q (below n)
same_find p q zero agree = refl
same_find p q (suc n) agree =
    find-append p (below n) (n ∷ []) ∙ ap (λ o. option_or o (find p (n ∷ []))) (same_find p q n (fewer p q n agree))
    ∙ ap (λ b. option_or (find q (below n)) (cond b (Some n) None)) (agree n (omega arith)) ∙ sym (find-append q (below n) (n ∷ []))

pub filter_more : (p : ℕ → Bool) (n : ℕ) → filter p (below (suc n)) ≡ (if p n then filter p (below n) ++ n ∷ [] else filter p (below n))
filter_more p n = filter-append p (below n) (n ∷ []) ∙ by (p n)
  where
    by : (b : Bool) → filter p (below n) ++ cond b (n ∷ []) [] ≡ (if b then filter p (below n) ++ n ∷ [] else filter p (below n))
    by true = refl
    by false = append-nil (filter p (below n))

pub same_any : (p q : ℕ → Bool) (n : ℕ) → Agree p q n → list_any p (below n) ≡ list_any q (below n)
same_any p q zero agree = refl
same_any p q (suc n) agree =
    list_any-append p (below n) (n ∷ []) ∙ ap (λ b. b || list_any p (n ∷ [])) (same_any p q n (fewer p q n agree))
    ∙ ap (λ b. list_any q (below n) || (b || false)) (agree n (omega arith)) ∙ sym (list_any-append q (below n) (n ∷ []))

pub count_more : (p : ℕ → Bool) (n : ℕ) → count_by p (below (suc n)) ≡ count_by p (below n) + (if p n then 1 else 0)
count_more p n = sum_by_push (λ x. cond (p x) 1 0) (below n) n

pub same_count : (p q : ℕ → Bool) (n : ℕ) → Agree p q n → count_by p (below n) ≡ count_by q (below n)
same_count p q zero agree = refl
same_count p q (suc n) agree =
    count_more p n ∙ ap (λ k. k + (if p n then 1 else 0)) (same_count p q n (fewer p q n agree))
    ∙ ap (λ b. count_by q (below n) + (if b then 1 else 0)) (agree n (omega arith)) ∙ sym (count_more q n)

-- Where none passes, and where one does.
pub filter_none : (p : ℕ → Bool) (n : ℕ) → NonePasses p n → filter p (below n) ≡ []
filter_none p zero none = refl
filter_none p (suc n) none =
    filter_more p n ∙ ap (λ b. if b then filter p (below n) ++ n ∷ [] else filter p (below n)) (none n (omega arith))
    ∙ filter_none p n (λ i less. none i (omega arith))

pub any_none : (p : ℕ → Bool) (n : ℕ) → NonePasses p n → list_any p (below n) ≡ false
any_none p zero none = refl
any_none p (suc n) none =
    list_any-append p (below n) (n ∷ [])
    ∙ or_from (list_any p (below n)) (p n || false) (any_none p n (λ i less. none i (omega arith))) (or_from (p n) false (none n (omega arith)) refl)

-- what is found is below the bound and passes
pub found_below : (p : ℕ → Bool) (n j : ℕ) → find p (below n) ≡ Some j → j < n
found_below p zero j found = cc
found_below p (suc n) j found = by (find p (below n)) refl (p n) (sym (find-append p (below n) (n ∷ [])) ∙ found) (found_below p n j)
  where
    by : (o : Option ℕ) → find p (below n) ≡ o → (b : Bool) → option_or (find p (below n)) (cond b (Some n) None) ≡ Some j → (find p (below n) ≡ Some j → j < n)
        → j < suc n
    by None none true found rest = let same : Some n ≡ Some j = sym (ap (λ o. option_or o (Some n)) none) ∙ found in let last : n ≡ j = cc in omega arith
    by None none false found rest = let same : None ≡ Some j = sym (ap (λ o. option_or o None) none) ∙ found in cc
    by (Some i) some b found rest =
        let same : find p (below n) ≡ Some j = some ∙ sym (ap (λ o. option_or o (cond b (Some n) None)) some) ∙ found in
        let less : j < n = rest same in omega arith

-- the first of those that pass one test that passes another
pub find_filter : (p q : ℕ → Bool) (xs : List ℕ) → find p (filter q xs) ≡ find (λ i. q i && p i) xs
find_filter p q [] = refl
find_filter p q (x ∷ xs) = by (q x) (find_filter p q xs)
  where
    by : (b : Bool) → find p (filter q xs) ≡ find (λ i. q i && p i) xs
        → find p (cond b (x ∷ filter q xs) (filter q xs)) ≡ cond (b && p x) (Some x) (find (λ i. q i && p i) xs)
    by true rest = ap (λ o. cond (p x) (Some x) o) rest
    by false rest = rest

-- The greatest value of those that pass.
module _ (f : ℕ → ℕ) (q : ℕ → Bool) where
  greatest_push : (xs : List ℕ) (x : ℕ) → greatest (xs ++ x ∷ []) ≡ max (greatest xs) x
  greatest_push [] x = omega arith
  greatest_push (y ∷ ys) x = let rest : greatest (ys ++ x ∷ []) ≡ max (greatest ys) x = greatest_push ys x in omega (arith, rest)

  abbrev pub most : ℕ → ℕ
  most n = greatest (map f (filter q (below n)))

  most_with : (n : ℕ) → q n ≡ true → most (suc n) ≡ max (most n) (f n)
  most_with n passes =
      ap (λ xs. greatest (map f xs)) (filter_more q n ∙ ap (λ b. if b then filter q (below n) ++ n ∷ [] else filter q (below n)) passes)
      ∙ ap greatest (map-append f (filter q (below n)) (n ∷ [])) ∙ greatest_push (map f (filter q (below n))) (f n)

  most_without : (n : ℕ) → q n ≡ false → most (suc n) ≡ most n
  most_without n fails = ap (λ xs. greatest (map f xs)) (filter_more q n ∙ ap (λ b. if b then filter q (below n) ++ n ∷ [] else filter q (below n)) fails)

  most_bound : (n m : ℕ) → ((i : ℕ) → i < n → q i ≡ true → f i ≤ m) → most n ≤ m
  most_bound zero m bound = omega arith
  most_bound (suc n) m bound = elim (cases_Bool (q n)) [
    | inl passes ↦ omega (arith, most_with n passes, bound n (omega arith) passes, most_bound n m (λ i less it. bound i (omega arith) it))
    | inr fails ↦ omega (arith, most_without n fails, most_bound n m (λ i less it. bound i (omega arith) it))
  ]

  most_here : (n i : ℕ) → i < n → q i ≡ true → f i ≤ most n
  most_here zero i less passes = absurd (omega arith)
  most_here (suc n) i less passes = elim (cases_lt i n) [
    | inr last ↦ (let same : i ≡ n = omega arith in let value : f i ≡ f n = ap f same in omega (arith, value, most_with n (ap q (sym same) ∙ passes)))
    | inl before ↦ elim (cases_Bool (q n)) [
      | inl it ↦ omega (arith, most_with n it, most_here n i before passes)
      | inr not ↦ omega (arith, most_without n not, most_here n i before passes)
    ]
  ]

  -- the first that passes with the greatest value
  pub first_most : (n i : ℕ) → i < n → q i ≡ true → ((j : ℕ) → j < n → q j ≡ true → f j ≤ f i) → ((j : ℕ) → j < n → q j ≡ true → f j ≡ f i → i ≤ j)
      → (test : ℕ → ℕ → Bool) → ((x y : ℕ) → test x y ≡ true → x ≡ y) → ((x y : ℕ) → x ≡ y → test x y ≡ true)
      → find (λ j. test (f j) (most n)) (filter q (below n)) ≡ Some i
  first_most n i less passes greater earlier test is_equal equal =
      let value : most n ≡ f i = omega (arith, most_bound n (f i) greater, most_here n i less passes) in
      find_filter (λ j. test (f j) (most n)) q (below n)
      ∙ find_below_here (λ j. q j && test (f j) (most n)) i n less
      (find_below_none (λ j. q j && test (f j) (most n)) i (λ j before. false_from_ne_true (q j && test (f j) (most n)) (λ it.
      let parts = and_parts (q j) (test (f j) (most n)) it in
      let first : i ≤ j = earlier j (omega arith) parts.0 (is_equal (f j) (most n) parts.1 ∙ value) in omega arith)))
      (and_from (q i) (test (f i) (most n)) passes (equal (f i) (most n) (sym value)))
