-- Lists one after another, with one more.
use Rattle.std.proofs.Common.{◌≡◌, ℕ, ◌+◌, ◌<◌, ◌≤◌, List, [], ◌∷◌, ◌++◌, length, get_or, drop, refl, subst, sym, ap, ◌∙◌, arith, inl, inr, length-append}
use Rattle.std.specs.List.{slice_range}
use Rattle.std.proofs.lemmas.Bool.{cases_lt}
use Rattle.std.proofs.lemmas.List.{length_push, get_or_read, get_or_append_left, get_or_push, drop_at, take-append-le}
use Rattle.std.proofs.lemmas.Slice.{between_is, between_to_end}
use Rattle.sd_plan.specs.Joining.{part_of, AreJoined}

-- a part does not see what is added
part_before : {A : Type 0} (xs more : List A) (from to : ℕ) → from ≤ to → to ≤ length xs → slice_range (xs ++ more) from to ≡ slice_range xs from to
part_before xs more from to order within = between_is (xs ++ more) from to ∙ ap (drop from) (take-append-le to xs more within) ∙ sym (between_is xs from to)

-- what is added is the last part
part_last : {A : Type 0} (xs more : List A) → slice_range (xs ++ more) (length xs) (length (xs ++ more)) ≡ more
part_last xs more = between_to_end (xs ++ more) (length xs) (length (xs ++ more)) (omega arith) ∙ drop_at xs more (length xs) refl

-- one more list
pub joined_more : {A : Type 0} (lists : List (List A)) (count : ℕ) (items more : List A) (offsets : List ℕ) → AreJoined lists count items offsets
    → more ≡ get_or lists count []
    → AreJoined lists (count + 1) (items ++ more) (offsets ++ length (items ++ more) ∷ [])
joined_more {A} lists count items more offsets joined is = record {
  ordered = record { entries = length_push offsets (length (items ++ more)) ∙ ap (λ n. n + 1) joined.ordered.entries; rising = rising; within = within };
  last = new;
  each = each;
}
  where
    size : length offsets ≡ count + 1
    size = joined.ordered.entries

    longer : length (items ++ more) ≡ length items + length more
    longer = length-append items more

    old : (d : ℕ) → d < count + 1 → get_or (offsets ++ length (items ++ more) ∷ []) d 0 ≡ get_or offsets d 0
    old d before = get_or_append_left offsets (length (items ++ more) ∷ []) 0 d (omega (arith, size))

    new : get_or (offsets ++ length (items ++ more) ∷ []) (count + 1) 0 ≡ length (items ++ more)
    new = get_or_push offsets (length (items ++ more)) 0 (count + 1) size

    rising : (d : ℕ) → d < count + 1 → get_or (offsets ++ length (items ++ more) ∷ []) d 0 ≤ get_or (offsets ++ length (items ++ more) ∷ []) (d + 1) 0
    rising d before =
        elim (cases_lt d count) [
          | inl early ↦ (rw (old d before, old (d + 1) (omega arith)) (joined.ordered.rising d early))
          | inr late ↦ (let same : d ≡ count = omega arith in rw (same, old count (omega arith), new) (omega (arith, joined.last, longer)))
        ]

    within : (d : ℕ) → d < count + 1 → get_or (offsets ++ length (items ++ more) ∷ []) (d + 1) 0 ≤ length (items ++ more)
    within d before =
        elim (cases_lt d count) [
          | inl early ↦ (rw (old (d + 1) (omega arith)) (omega (arith, joined.ordered.within d early, longer)))
          | inr late ↦ (let same : d ≡ count = omega arith in rw (same, new) (omega arith))
        ]

    each : (d : ℕ) → d < count + 1 → part_of (items ++ more) (offsets ++ length (items ++ more) ∷ []) d ≡ get_or lists d []
    each d before =
        elim (cases_lt d count) [
          | inl early ↦
              (rw (old d before, old (d + 1) (omega arith))
              (part_before items more (get_or offsets d 0) (get_or offsets (d + 1) 0) (joined.ordered.rising d early) (joined.ordered.within d early)
              ∙ joined.each d early))
          | inr late ↦ (let same : d ≡ count = omega arith in rw (same, old count (omega arith), new, joined.last) (part_last items more ∙ is))
        ]

-- the same, where all that there is then is known by other names
pub joined_added : {A : Type 0} (lists : List (List A)) (count : ℕ) (items more all : List A) (offsets new : List ℕ) (size : ℕ)
    → AreJoined lists count items offsets
    → count < length lists → more ≡ get_or lists count more → all ≡ items ++ more → new ≡ offsets ++ size ∷ [] → size ≡ length all
    → AreJoined lists (count + 1) all new
joined_added {A} lists count items more all offsets new size joined within is added pushed sized =
    let front : new ≡ offsets ++ length (items ++ more) ∷ [] = pushed ∙ ap (λ n. offsets ++ n ∷ []) (sized ∙ ap length added) in
    subst (λ (xs : List A). AreJoined lists (count + 1) xs new) (sym added)
    (subst (λ (ns : List ℕ). AreJoined lists (count + 1) (items ++ more) ns) (sym front)
    (joined_more lists count items more offsets joined (get_or_read lists count more within is [])))
