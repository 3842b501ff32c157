-- Tests that elements of lists pass, by what the lists have.
use Rattle.std.proofs.Common.{◌≡◌, ℕ, zero, suc, ◌<◌, Bool, true, false, ◌&&◌, ◌||◌, List, [], ◌∷◌, map, nat_eq, nat_lt, Some, slice_get, refl, sym, ap, ◌∙◌, arith, inl, inr}
use Rattle.std.specs.List.{list_any}
use Rattle.std.proofs.lemmas.Bool.{or_left, or_right, or_cases, and_parts, and_from, cases_lt, eqb-true, eq-eqb, ltb-true, lt-ltb}
use Rattle.std.proofs.lemmas.List.Folds.{list_any-append}
use Rattle.sd_num.specs.Lists.{below, has}
use Rattle.sd_num.proofs.Places.{has_at}
use Rattle.sd_num.proofs.Shared.{same_from_both}
use Rattle.sd_planner.proofs.Lists.{has_any}

-- where it is
pub record IsPassed {X : Type 0} (p : X → Bool) (xs : List X) : Type 0 where
  pub place : ℕ
  pub element : X
  pub at : slice_get xs place ≡ Some element
  pub passes : p element ≡ true

pub passed : {X : Type 0} (p : X → Bool) (xs : List X) → list_any p xs ≡ true → IsPassed p xs
passed p [] any = cc
passed p (y ∷ ys) any = elim (or_cases (p y) (list_any p ys) any) [
  | inl here ↦ record { place = 0; element = y; at = refl; passes = here }
  | inr later ↦ (let more = passed p ys later in record { place = suc more.place; element = more.element; at = more.at; passes = more.passes })
]

pub record IsHad (p : ℕ → Bool) (xs : List ℕ) : Type 0 where
  pub element : ℕ
  pub there : has xs element ≡ true
  pub passes : p element ≡ true

pub had : (p : ℕ → Bool) (xs : List ℕ) → list_any p xs ≡ true → IsHad p xs
had p xs any = let h = passed p xs any in record { element = h.element; there = has_at xs h.place h.element h.at; passes = h.passes }

pub any-map : {X Y : Type 0} (f : X → Y) (p : Y → Bool) (xs : List X) → list_any p (map f xs) ≡ list_any (λ x. p (f x)) xs
any-map f p [] = refl
any-map f p (x ∷ xs) = ap (λ t. p (f x) || t) (any-map f p xs)

-- numbers below a bound
pub has_below : (n k : ℕ) → has (below n) k ≡ nat_lt k n
has_below n k = same_from_both (has (below n) k) (nat_lt k n) (there n) (back n)
  where
    there : (m : ℕ) → has (below m) k ≡ true → nat_lt k m ≡ true
    there zero had = cc
    there (suc m) had = elim (or_cases (has (below m) k) (nat_eq k m || false) (sym (list_any-append (nat_eq k) (below m) (m ∷ [])) ∙ had)) [
      | inl before ↦ (let less = ltb-true k m (there m before) in lt-ltb k (suc m) (omega arith))
      | inr last ↦ elim (or_cases (nat_eq k m) false last) [ inl here ↦ (let same = eqb-true k m here in lt-ltb k (suc m) (omega arith)) | inr never ↦ cc ]
    ]

    back : (m : ℕ) → nat_lt k m ≡ true → has (below m) k ≡ true
    back zero less = absurd (let l = ltb-true k 0 less in omega arith)
    back (suc m) less =
        list_any-append (nat_eq k) (below m) (m ∷ [])
        ∙ elim (cases_lt k m) [
          | inl before ↦ or_left (has (below m) k) (nat_eq k m || false) (back m (lt-ltb k m before))
          | inr last ↦ or_right (has (below m) k) (nat_eq k m || false)
              (or_left (nat_eq k m) false (eq-eqb k m (let l = ltb-true k (suc m) less in omega arith)))
        ]

-- a test of the numbers below a bound that are in one of two lists
pub any_among : (p q : ℕ → Bool) (xs ys : List ℕ) (n : ℕ) (inside other : ℕ → Bool)
    → ((k : ℕ) → has xs k ≡ (nat_lt k n && inside k)) → ((k : ℕ) → has ys k ≡ (nat_lt k n && other k))
    → ((k : ℕ) → k < n → p k ≡ (q k && (inside k || other k)))
    → list_any p (below n) ≡ (list_any q xs || list_any q ys)
any_among p q xs ys n inside other first second is = same_from_both (list_any p (below n)) (list_any q xs || list_any q ys) there back
  where
    there : list_any p (below n) ≡ true → (list_any q xs || list_any q ys) ≡ true
    there any =
        let h = had p (below n) any in
        let less : nat_lt h.element n ≡ true = sym (has_below n h.element) ∙ h.there in
        let parts = and_parts (q h.element) (inside h.element || other h.element) (sym (is h.element (ltb-true h.element n less)) ∙ h.passes) in
        elim (or_cases (inside h.element) (other h.element) parts.1) [
          | inl one ↦ or_left (list_any q xs) (list_any q ys)
              (has_any q xs h.element (first h.element ∙ and_from (nat_lt h.element n) (inside h.element) less one) parts.0)
          | inr two ↦ or_right (list_any q xs) (list_any q ys)
              (has_any q ys h.element (second h.element ∙ and_from (nat_lt h.element n) (other h.element) less two) parts.0)
        ]

    from : (k : ℕ) → nat_lt k n ≡ true → q k ≡ true → (inside k || other k) ≡ true → list_any p (below n) ≡ true
    from k less passes held = has_any p (below n) k (has_below n k ∙ less) (is k (ltb-true k n less) ∙ and_from (q k) (inside k || other k) passes held)

    back : (list_any q xs || list_any q ys) ≡ true → list_any p (below n) ≡ true
    back any = elim (or_cases (list_any q xs) (list_any q ys) any) [
      | inl one ↦
          (let h = had q xs one in
          let parts = and_parts (nat_lt h.element n) (inside h.element) (sym (first h.element) ∙ h.there) in
          from h.element parts.0 h.passes (or_left (inside h.element) (other h.element) parts.1))
      | inr two ↦
          (let h = had q ys two in
          let parts = and_parts (nat_lt h.element n) (other h.element) (sym (second h.element) ∙ h.there) in
          from h.element parts.0 h.passes (or_right (inside h.element) (other h.element) parts.1))
    ]
