-- Sets of numbers, as they are kept in order.
use Rattle.std.proofs.Common.{◌≡◌, ℕ, ◌<◌, ◌⊎◌, inl, inr, Bool, true, false, ◌&&◌, ◌||◌, not, cond, List, [], ◌∷◌, length, All, Option, Some, None, IfSome, nat_eq, nat_lt, refl, sym, ap, ◌∙◌, subst, arith}
use Rattle.std.proofs.lemmas.Bool.{or_cases, or_left, false_from_ne_true, cases_eq, eqb-true, ltb-true, eq-eqb, ne_eqb}
use Rattle.std.specs.Ordering.{nat_cmp, match_ordering}
use Rattle.std.specs.declared.cmp.Ordering.TheVariants.{Less, Equal, Greater}
use Rattle.std.specs.BTreeSet.{insert_key}
use Rattle.std.specs.Option.{IsSome}
use Rattle.std.proofs.lemmas.List.Elements.{All-tail, All-head}
use Rattle.sd_num.specs.Lists.{has}
use Rattle.sd_planner.specs.Waits.{IsLowest, IsTaken}

-- a number among those that are in order
pub has_inserted : (ks : List ℕ) (k x : ℕ) → has (insert_key nat_cmp ks k) x ≡ (nat_eq x k || has ks x)
has_inserted [] k x = refl
has_inserted (y ∷ ys) k x = by_order (nat_lt k y) (cases_eq k y) (has_inserted ys k x)
  where
    twice : (a b : Bool) → (a || b) ≡ (a || (a || b))
    twice true b = refl
    twice false b = refl

    swapped : (a b c : Bool) → (a || (b || c)) ≡ (b || (a || c))
    swapped true true c = refl
    swapped true false c = refl
    swapped false true c = refl
    swapped false false c = refl

    by_order : (less : Bool) → (k ≡ y) ⊎ (k ≡ y → ⊥) → has (insert_key nat_cmp ys k) x ≡ (nat_eq x k || has ys x)
        → has (match_ordering (cond less Less (cond (nat_eq k y) Equal Greater)) (k ∷ y ∷ ys) (y ∷ ys) (y ∷ insert_key nat_cmp ys k)) x
        ≡ (nat_eq x k || (nat_eq x y || has ys x))
    by_order true same later = refl
    by_order false (inl same) later =
        rw (eq-eqb k y same) (subst (λ z. (nat_eq x y || has ys x) ≡ (nat_eq x z || (nat_eq x y || has ys x))) (sym same) (twice (nat_eq x y) (has ys x)))
    by_order false (inr apart) later = rw (ne_eqb k y apart) (ap (λ b. nat_eq x y || b) later ∙ swapped (nat_eq x y) (nat_eq x k) (has ys x))

-- what is less than each is none of them
none_less : (d : ℕ) (ks : List ℕ) → All (λ k. nat_cmp d k ≡ Less) ks → (x : ℕ) → has ks x ≡ true → d < x
none_less d [] above x there = cc
none_less d (k ∷ ks) above x there =
    elim (or_cases (nat_eq x k) (has ks x) there) [
      | inl here ↦ (let same : x ≡ k = eqb-true x k here in let less : d < k = less_from (nat_lt d k) refl (All-head (λ k. nat_cmp d k ≡ Less) k ks above) in
          omega arith)
      | inr later ↦ none_less d ks (All-tail (λ k. nat_cmp d k ≡ Less) k ks above) x later
    ]
  where
    less_from : (b : Bool) → nat_lt d k ≡ b → cond b Less (cond (nat_eq d k) Equal Greater) ≡ Less → d < k
    less_from true is less = ltb-true d k is
    less_from false is less = by_eq (nat_eq d k) less
      where
        by_eq : (b : Bool) → cond b Equal Greater ≡ Less → d < k
        by_eq true h = cc
        by_eq false h = cc

-- the first of those in order is the lowest
first_lowest : (old new : List ℕ) (d : ℕ) → old ≡ d ∷ new → All (λ k. nat_cmp d k ≡ Less) new → IsLowest old new d
first_lowest old new d is above = record {
  there = ap (λ ks. has ks d) is ∙ or_left (nat_eq d d) (has new d) (eq-eqb d d refl);
  least = λ x there.
      elim (or_cases (nat_eq x d) (has new x) (sym (ap (λ ks. has ks x) is) ∙ there)) [
        | inl here ↦ (let same : x ≡ d = eqb-true x d here in omega arith)
        | inr later ↦ (let less : d < x = none_less d new above x later in omega arith)
      ];
  rest = λ x. sym (ap (λ ks. has ks x && not (nat_eq x d)) is ∙ by_same x (cases_eq x d));
}
  where
    by_same : (x : ℕ) → (x ≡ d) ⊎ (x ≡ d → ⊥) → ((nat_eq x d || has new x) && not (nat_eq x d)) ≡ has new x
    by_same x (inl same) =
        ap (λ b. (b || has new x) && not b) (eq-eqb x d same)
        ∙ sym (false_from_ne_true (has new x) (λ there. (let less : d < x = none_less d new above x there in omega arith)))
    by_same x (inr apart) = ap (λ b. (b || has new x) && not b) (ne_eqb x d apart) ∙ kept (has new x)
      where
        kept : (b : Bool) → (b && true) ≡ b
        kept true = refl
        kept false = refl

-- none of none
none_taken : (old : List ℕ) → (0 < length old → ⊥) → (x : ℕ) → has old x ≡ false
none_taken [] empty x = refl
none_taken (k ∷ ks) empty x = absurd (empty (omega arith))

-- what is taken first
pub taken : (old new : List ℕ) (result : Option ℕ) → IfSome result (λ d. old ≡ d ∷ new) → IfSome result (λ d. All (λ k. nat_cmp d k ≡ Less) new)
    → (0 < length old → IsSome result) → IsTaken old new result
taken old new None is above there = none_taken old (λ some. (let no = there some in cc))
taken old new (Some d) is above there = first_lowest old new d is above
