-- Marks at the numbers of a list, and at no others.
use Rattle.std.proofs.Common.{◌≡◌, ℕ, ◌<◌, Bool, true, false, not, ◌&&◌, ◌||◌, ◌⊎◌, List, [], ◌∷◌, ◌++◌, length, get_or, set as put, nat_eq, refl, sym, ap, ◌∙◌, inl, inr, subst, arith, length-set, length-append, replicate, get_or-set_other, get_or-set_same, cond}
use Rattle.std.specs.List.{IsDistinct, All}
use Rattle.std.specs.Ordering.{nat_cmp}
use Rattle.std.specs.Cmp.{nat_cmp_total, nat_eq_equiv}
use Rattle.std.specs.FinSet as set
use Rattle.std.specs.FinSet.{FinSet, nat_cmp-IsAntisymmetric}
use Rattle.std.proofs.lemmas.Bool.{cases_lt, cases_eq, ne_eqb, eq-eqb, true≢false}
use Rattle.std.proofs.lemmas.List.{get_or_past, get_or-replicate, length-replicate}
use Rattle.std.proofs.lemmas.Map.Views.{All-from_any}
use Rattle.std.proofs.lemmas.Map.Keys.{IsDistinct-push}
use Rattle.std.proofs.lemmas.Map.Steps.{length-le_from_distinct_below}
use Rattle.sd_num.specs.Lists.{has}
use Rattle.sd_num.proofs.Places.{has_more}
use Rattle.sd_plan.specs.domain.NumberSets.{Numbers, with_number}
use Rattle.sd_plan.proofs.domain.Members.{contains-made, contains-insert-nat}

-- a mark is set at each of the numbers and at no other
abbrev pub AreMarked : List Bool → List ℕ → Type 0
AreMarked marks numbers = (k : ℕ) → get_or marks k false ≡ has numbers k

-- a number is marked and put at the end
pub marked_push : (marks : List Bool) (numbers : List ℕ) (n : ℕ) → n < length marks → AreMarked marks numbers → AreMarked (put marks n true) (numbers ++ n ∷ [])
marked_push marks numbers n within marked k = by_side (cases_eq k n) ∙ sym (has_more numbers n k)
  where
    or_true : (b : Bool) → (b || true) ≡ true
    or_true true = refl
    or_true false = refl

    or_false : (b : Bool) → (b || false) ≡ b
    or_false true = refl
    or_false false = refl

    by_side : (k ≡ n) ⊎ (k ≡ n → ⊥) → get_or (put marks n true) k false ≡ (has numbers k || nat_eq k n)
    by_side (inl same) = rw (eq-eqb k n same) (rw same (get_or-set_same marks n true false within) ∙ sym (or_true (has numbers k)))
    by_side (inr other) = rw (ne_eqb k n other) (get_or-set_other marks n k true false other ∙ marked k ∙ sym (or_false (has numbers k)))

-- the numbers with one that had no mark come once each
pub distinct_push : (marks : List Bool) (numbers : List ℕ) (n : ℕ) → AreMarked marks numbers → get_or marks n false ≡ false → IsDistinct nat_eq numbers
    → IsDistinct nat_eq (numbers ++ n ∷ [])
distinct_push marks numbers n marked none distinct = IsDistinct-push nat_eq_equiv numbers n distinct (sym (marked n) ∙ none)

-- a number that is among them has a mark
pub below_marks : (marks : List Bool) (numbers : List ℕ) (n : ℕ) → AreMarked marks numbers → has numbers n ≡ true → n < length marks
below_marks marks numbers n marked among =
    elim (cases_lt n (length marks)) [
      | inl within ↦ within
      | inr past ↦ absurd (true≢false (sym among ∙ sym (marked n) ∙ get_or_past marks n false past))
    ]

-- so the numbers lie below as many as there are marks
pub all_below_marks : (marks : List Bool) (numbers : List ℕ) → AreMarked marks numbers → All (λ n. n < length marks) numbers
all_below_marks marks numbers marked = All-from_any nat_eq_equiv (λ n. n < length marks) numbers (λ n among. below_marks marks numbers n marked among)

-- with all marks away there are no numbers
pub none_marked : (old new : List Bool) (numbers : List ℕ) → AreMarked old numbers
    → ((k : ℕ) → get_or new k false ≡ (get_or old k false && not (has numbers k))) → AreMarked new []
none_marked old new numbers marked taken k = taken k ∙ rw (marked k) (both (has numbers k))
  where
    both : (b : Bool) → (b && not b) ≡ false
    both true = refl
    both false = refl

-- of no numbers none has a mark
pub none_marked_first : (n : ℕ) → AreMarked (replicate n false) []
none_marked_first n k =
    elim (cases_lt k n) [
      | inl within ↦ get_or-replicate n k false false within
      | inr past ↦ get_or_past (replicate n false) k false (rw (length-replicate n false) past)
    ]

-- no number comes twice in an empty list
pub distinct_none : IsDistinct nat_eq []
unfolding IsDistinct
distinct_none = tt

-- there are fewer numbers than marks while some number has none
pub room_push : (marks : List Bool) (numbers : List ℕ) (n : ℕ) → n < length marks → AreMarked marks numbers → get_or marks n false ≡ false
    → IsDistinct nat_eq numbers
    → length numbers < length marks
room_push marks numbers n within marked none distinct =
    let pushed = length-le_from_distinct_below (numbers ++ n ∷ []) (length marks) (distinct_push marks numbers n marked none distinct)
    (λ k among. subst (λ len. k < len) (length-set marks n true)
    (below_marks (put marks n true) (numbers ++ n ∷ []) k (marked_push marks numbers n within marked) among)) in
    omega (arith, pushed, length-append numbers (n ∷ []))

-- what is seen of numbers below a bound
abbrev seen : List ℕ → ℕ → Numbers
seen numbers bound = record { numbers = numbers; bound = bound }

-- what is seen once a number is put at the end that had no mark
pub seen_push : (old : Numbers) (marks : List Bool) (numbers more : List ℕ) (bound n : ℕ) → seen numbers bound ≡ old → AreMarked marks numbers
    → get_or marks n false ≡ false → more ≡ numbers ++ n ∷ []
    → seen more bound ≡ record old { numbers = with_number old.numbers n }
seen_push old marks numbers more bound n is marked none put_last =
    ap (λ xs. seen xs bound) (put_last ∙ sym (ap (λ t. cond t numbers (numbers ++ n ∷ [])) (sym (marked n) ∙ none)))
    ∙ ap (λ (v : Numbers). seen (with_number v.numbers n) v.bound) is

-- what is seen once a number is put in that was there
pub seen_again : (old : Numbers) (marks : List Bool) (numbers : List ℕ) (bound n : ℕ) → seen numbers bound ≡ old → AreMarked marks numbers
    → get_or marks n false ≡ true
    → old ≡ record old { numbers = with_number old.numbers n }
seen_again old marks numbers bound n is marked there =
    sym is
    ∙ ap (λ xs. seen xs bound) (sym (ap (λ t. cond t numbers (numbers ++ n ∷ [])) (sym (marked n) ∙ there)))
    ∙ ap (λ (v : Numbers). seen (with_number v.numbers n) v.bound) is

-- a number that is there already changes nothing of a set
insert_again : (s : FinSet nat_cmp) (n : ℕ) → set.contains s n ≡ true → set.insert s n ≡ s
insert_again s n there = set.same_set nat_cmp_total nat_cmp-IsAntisymmetric (set.insert s n) s (λ k. contains-insert-nat s n k ∙ by_side k (cases_eq k n))
  where
    by_side : (k : ℕ) → (k ≡ n) ⊎ (k ≡ n → ⊥) → (nat_eq k n || set.contains s k) ≡ set.contains s k
    by_side k (inl same) = rw (eq-eqb k n same) (sym (rw same there))
    by_side k (inr other) = rw (ne_eqb k n other) refl

-- the set that numbers make with one more has this one too
pub made_with : (numbers : List ℕ) (n : ℕ) → set.from_list {R = nat_cmp} (with_number numbers n) ≡ set.insert (set.from_list numbers) n
made_with numbers n = by (has numbers n) refl
  where
    by : (t : Bool) → has numbers n ≡ t → set.from_list {R = nat_cmp} (cond t numbers (numbers ++ n ∷ [])) ≡ set.insert (set.from_list numbers) n
    by true there = sym (insert_again (set.from_list numbers) n (contains-made numbers n ∙ there))
    by false new = set.from_list_push nat_cmp_total nat_cmp-IsAntisymmetric numbers n
