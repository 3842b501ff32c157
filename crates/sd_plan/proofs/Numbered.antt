-- Lists with an element for each number below a bound.
use Rattle.std.proofs.Common.{◌≡◌, ℕ, zero, suc, ◌+◌, ◌<◌, Bool, true, false, cond, List, [], ◌∷◌, ◌++◌, length, map, find, filter_map, get_or, Option, Some, None, refl, sym, subst, ap, ◌∙◌, arith, add-one, inl, inr}
use Rattle.std.specs.Option.{option_or}
use Rattle.std.proofs.lemmas.Bool.{cases_lt, false_from_ne_true}
use Rattle.std.proofs.lemmas.List.{length_push, map_push, get_or_append_left, get_or_push, get_or-map, get_or_default, length-map, same_lists}
use Rattle.std.proofs.lemmas.List.Elements.{filter_map-append}
use Rattle.std.proofs.lemmas.List.Folds.{find-append}
use Rattle.std.proofs.lemmas.Option.{slice_get-get_or}
use Rattle.sd_num.specs.Lists.{below, map_or, at_place}
use Rattle.sd_num.proofs.Firsts.{find_below_none}

-- as many as the bound
pub length-below : (n : ℕ) → length (below n) ≡ n
length-below zero = refl
length-below (suc n) = length_push (below n) n ∙ rw (length-below n) (omega arith)

-- the number at a place is the place
pub get_or-below : (n k d : ℕ) → k < n → get_or (below n) k d ≡ k
get_or-below zero k d within = absurd (omega arith)
get_or-below (suc n) k d within =
    elim (cases_lt k n) [
      | inl before ↦ get_or_append_left (below n) (n ∷ []) d k (rw (length-below n) before) ∙ get_or-below n k d before
      | inr last ↦ (let same : n ≡ k = omega arith in get_or_push (below n) n d k (length-below n ∙ same) ∙ same)
    ]

-- as many elements as the bound
pub length-numbered : {X : Type 0} (f : ℕ → X) (n : ℕ) → length (map f (below n)) ≡ n
length-numbered f n = length-map (below n) f ∙ length-below n

-- the element at a place
pub get_or-numbered : {X : Type 0} (f : ℕ → X) (n k : ℕ) (e : X) → k < n → get_or (map f (below n)) k e ≡ f k
get_or-numbered f n k e within = get_or-map f (below n) k 0 e (rw (length-below n) within) ∙ ap f (get_or-below n k 0 within)

-- the same, with its default
pub at-numbered : {X Y : Type 0} (f : ℕ → X) (n k : ℕ) (e : Y) (g : X → Y) → k < n → at_place (map f (below n)) k e g ≡ g (f k)
at-numbered f n k e g within =
    ap (λ o. map_or o e g) (slice_get-get_or (map f (below n)) k (f k) (rw (length-numbered f n) within))
    ∙ ap g (get_or-numbered f n k (f k) within)

-- a list that has these elements is this list
pub numbered_is : {X : Type 0} (f : ℕ → X) (n : ℕ) (e : X) (xs : List X) → length xs ≡ n → ((k : ℕ) → k < n → get_or xs k e ≡ f k) → xs ≡ map f (below n)
numbered_is f n e xs size each =
    same_lists xs (map f (below n)) (size ∙ sym (length-numbered f n)) (λ k d within.
    let before : k < n = omega arith in
    get_or_default xs k d e within ∙ each k before ∙ sym (get_or-numbered f n k d before))

-- one more number
pub numbered_more : {X : Type 0} (f : ℕ → X) (n : ℕ) → map f (below (n + 1)) ≡ map f (below n) ++ f n ∷ []
numbered_more f n = rw add-one (map_push f (below n) n)

-- one more number of those of which h gives something
pub filtered_more : {X : Type 0} (h : ℕ → Option X) (n : ℕ) → filter_map h (below (n + 1)) ≡ filter_map h (below n) ++ filter_map h (n ∷ [])
filtered_more h n = rw add-one (filter_map-append h (below n) (n ∷ []))

-- neither of two options has anything
pub both_none : {X : Type 0} (a b : Option X) → option_or a b ≡ None → (a ≡ None) × (b ≡ None)
both_none None b none = (refl, none)
both_none (Some x) b none = cc

-- where there is none no number passes
pub none_found : (test : ℕ → Bool) (n k : ℕ) → find test (below n) ≡ None → k < n → test k ≡ false
none_found test zero k none within = absurd (omega arith)
none_found test (suc n) k none within =
    let (early, late) = both_none (find test (below n)) (find test (n ∷ [])) (sym (find-append test (below n) (n ∷ [])) ∙ none) in
    elim (cases_lt k n) [
      | inl before ↦ none_found test n k early before
      | inr last ↦ (let same : k ≡ n = omega arith in rw same (by_test (test n) late))
    ]
  where
    by_test : (b : Bool) → cond b (Some n) None ≡ None → b ≡ false
    by_test true h = cc
    by_test false h = refl

-- what is found is one of the numbers, and passes
pub found_passes : (test : ℕ → Bool) (n c : ℕ) → find test (below n) ≡ Some c → (c < n) × (test c ≡ true)
found_passes test zero c found = cc
found_passes test (suc n) c found = by_early (found_passes test n c) (find test (below n)) refl (sym (find-append test (below n) (n ∷ [])) ∙ found)
  where
    by_test : (b : Bool) → test n ≡ b → cond b (Some n) None ≡ Some c → (c < suc n) × (test c ≡ true)
    by_test true passes found = let same : n ≡ c = cc in (omega arith, subst (λ x. test x ≡ true) same passes)
    by_test false fails found = cc

    by_early : (find test (below n) ≡ Some c → (c < n) × (test c ≡ true)) → (o : Option ℕ) → find test (below n) ≡ o → option_or o (find test (n ∷ [])) ≡ Some c
        → (c < suc n) × (test c ≡ true)
    by_early before None none found = by_test (test n) refl found
    by_early before (Some x) some found = let (less, passes) = before (some ∙ found) in (omega arith, passes)

-- where just one number can pass it is found if it passes
pub find_only : (test : ℕ → Bool) (n b : ℕ) → b < n → ((c : ℕ) → c < n → test c ≡ true → c ≡ b) → find test (below n) ≡ cond (test b) (Some b) None
find_only test zero b within only = absurd (omega arith)
find_only test (suc n) b within only =
    find-append test (below n) (n ∷ [])
    ∙ elim (cases_lt b n) [
      | inl before ↦
          (let other : test n ≡ false = false_from_ne_true (test n) (λ passes. (let same = only n (omega arith) passes in omega arith)) in
          rw (find_only test n b before (λ c within passes. only c (omega arith) passes), other) (by_test (test b)))
      | inr last ↦
          (let same : b ≡ n = omega arith in
          let none = find_below_none test n (λ c within. false_from_ne_true (test c) (λ passes. (let equal = only c (omega arith) passes in omega arith))) in
          rw (none, same) refl)
    ]
  where
    by_test : (t : Bool) → option_or (cond t (Some b) None) None ≡ cond t (Some b) None
    by_test true = refl
    by_test false = refl
