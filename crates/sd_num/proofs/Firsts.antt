-- The first of some elements that passes a test.
use Rattle.std.proofs.Common.{◌≡◌, ℕ, zero, suc, ◌+◌, ◌<◌, ◌≤◌, Bool, true, false, cond, List, [], ◌∷◌, length, take, drop, get_or, map, find, Some, None, refl, sym, ap, ◌∙◌, arith, add-one, inl, inr}
use Rattle.std.specs.Option.{option_map, option_or}
use Rattle.std.proofs.lemmas.List.{take_all, take_more, take-append-drop, drop_more}
use Rattle.std.proofs.lemmas.List.Folds.{find-append}
use Rattle.std.proofs.lemmas.Bool.{cases_lt}
use Rattle.std.proofs.lemmas.Option.{same_Some}
use Rattle.sd_num.specs.Lists.{below}

-- no number below n passes the test
abbrev pub NonePasses : (ℕ → Bool) → ℕ → Type 0
NonePasses test n = (k : ℕ) → k < n → test k ≡ false

-- what is found passes the test
pub find_passes : {X : Type 0} (test : X → Bool) (xs : List X) (x : X) → find test xs ≡ Some x → test x ≡ true
find_passes test [] x found = cc
find_passes test (y ∷ ys) x found = by (test y) refl found (find_passes test ys x)
  where
    by : (b : Bool) → test y ≡ b → cond b (Some y) (find test ys) ≡ Some x → (find test ys ≡ Some x → test x ≡ true) → test x ≡ true
    by true is found rest = ap test (sym (same_Some y x found)) ∙ is
    by false is found rest = rest found

-- where no element passes there is none
pub find_none : {X : Type 0} (test : X → Bool) (xs : List X) → ((x : X) → test x ≡ false) → find test xs ≡ None
find_none test [] fails = refl
find_none test (x ∷ xs) fails = rw (fails x) (find_none test xs fails)

-- where no number below n passes there is none
pub find_below_none : (test : ℕ → Bool) (n : ℕ) → ((x : ℕ) → x < n → test x ≡ false) → find test (below n) ≡ None
find_below_none test zero fails = refl
find_below_none test (suc n) fails =
    find-append test (below n) (n ∷ []) ∙ rw (find_below_none test n (λ x before. fails x (omega arith)), fails n (omega arith)) refl

-- the first of what a list's elements are made into
pub find-map : {X Y : Type 0} (make : X → Y) (test : Y → Bool) (xs : List X) → find test (map make xs) ≡ option_map make (find (λ x. test (make x)) xs)
find-map make test [] = refl
find-map make test (x ∷ xs) =
    elim (test (make x)) as (λ b. cond b (Some (make x)) (find test (map make xs)) ≡ option_map make (cond b (Some x) (find (λ x. test (make x)) xs)))
    [ true ↦ refl | false ↦ find-map make test xs ]

-- a number that does not pass changes nothing
pub find_below_more : (test : ℕ → Bool) (k : ℕ) → find test (below k) ≡ None → test k ≡ false → find test (below (k + 1)) ≡ None
find_below_more test k none fails = rw (add-one, find-append test (below k) (k ∷ []), none, fails) refl

-- the first number that passes is the first of any more
pub find_below_here : (test : ℕ → Bool) (k n : ℕ) → k < n → find test (below k) ≡ None → test k ≡ true → find test (below n) ≡ Some k
find_below_here test k zero within none passes = absurd (omega arith)
find_below_here test k (suc n) within none passes =
    find-append test (below n) (n ∷ [])
    ∙ elim (cases_lt k n) [
      | inl earlier ↦ rw (find_below_here test k n earlier none passes) refl
      | inr last ↦ (let same : n ≡ k = omega arith in rw (same, none, passes) refl)
    ]

-- one more of a list's first elements that fails changes nothing
pub find_more : {X : Type 0} (p : X → Bool) (xs : List X) (i : ℕ) (d : X) → i < length xs → find p (take i xs) ≡ None → p (get_or xs i d) ≡ false
    → find p (take (i + 1) xs) ≡ None
find_more p xs i d within none fails =
    ap (find p) (take_more xs i d within) ∙ find-append p (take i xs) (get_or xs i d ∷ [])
    ∙ ap (λ o. option_or o (cond (p (get_or xs i d)) (Some (get_or xs i d)) None)) none
    ∙ ap (λ t. cond t (Some (get_or xs i d)) None) fails

-- the first element of a list that passes
pub find_here : {X : Type 0} (p : X → Bool) (xs : List X) (i : ℕ) (d : X) → i < length xs → find p (take i xs) ≡ None → p (get_or xs i d) ≡ true
    → find p xs ≡ Some (get_or xs i d)
find_here p xs i d within none passes =
    ap (find p) (sym (take-append-drop i xs)) ∙ find-append p (take i xs) (drop i xs) ∙ ap (λ o. option_or o (find p (drop i xs))) none
    ∙ ap (find p) (drop_more xs i d within)
    ∙ ap (λ t. cond t (Some (get_or xs i d)) (find p (drop (i + 1) xs))) passes

-- where none of a list passes there is none
pub find_all : {X : Type 0} (p : X → Bool) (xs : List X) (i : ℕ) → length xs ≤ i → find p (take i xs) ≡ None → find p xs ≡ None
find_all p xs i all none = ap (find p) (sym (take_all i xs all)) ∙ none
