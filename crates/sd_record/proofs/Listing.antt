-- Endings that are listed, one more and one less.
use Rattle.std.specs.Prelude.{◌≡◌, zero, suc, ◌<◌, List, [], ◌∷◌, length, slice_index_or, Some, ◌⊎◌, refl}
use Rattle.std.specs.BinaryHeap.{heap_items}
use Rattle.std.specs.List.{Contains}
use Rattle.std.specs.List.Sorted.{IsPermutation}
use Rattle.std.specs.declared.cmp.Reverse.{Reverse}
use Rattle.std.proofs.Common.{arith, sym, ◌∙◌, ap, subst, inl, inr}
use Rattle.std.proofs.lemmas.List.Elements.{Contains-append_cases, Contains-append_right}
use Rattle.std.proofs.lemmas.List.Sorted.{Contains-permutation, IsPermutation-sym}
use Rattle.sd_record.specs.Endings.{IsSoonest, Lists, first_in}
use Rattle.sd_record.specs.declared.endings.Endings.{Endings}
use Rattle.sd_record.specs.declared.endings.NamedEnding.{NamedEnding}

abbrev has : List (Reverse NamedEnding) → NamedEnding → Type 0
has items ending = Contains items (record { 0 = ending })

-- none

pub none_listed : (endings : Endings) → heap_items endings.heap ≡ [] → (ending : NamedEnding) → Lists endings ending → ⊥
none_listed endings empty ending there =
    let (k, within, is) = subst (λ (items : List (Reverse NamedEnding)). has items ending) empty there in omega (arith, within)

-- one more

pub listed_more : (items more : List (Reverse NamedEnding)) (ending : NamedEnding) → IsPermutation (record { 0 = ending } ∷ items) more → has more ending
listed_more items more ending pushed =
    Contains-permutation (record { 0 = ending } ∷ items) more (record { 0 = ending }) pushed (0, omega arith, refl)

pub still_listed : (items more : List (Reverse NamedEnding)) (ending other : NamedEnding) → IsPermutation (record { 0 = ending } ∷ items) more → has items other
    → has more other
still_listed items more ending other pushed there =
    Contains-permutation (record { 0 = ending } ∷ items) more (record { 0 = other }) pushed
    (Contains-append_right (record { 0 = ending } ∷ []) items (record { 0 = other }) there)

-- what a list of one has is that one
only : (x y : Reverse NamedEnding) → Contains (x ∷ []) y → x ≡ y
only x y (zero, within, is) = is
only x y (suc k, within, is) = absurd (omega (arith, within))

pub only_more : (items more : List (Reverse NamedEnding)) (ending other : NamedEnding) → IsPermutation (record { 0 = ending } ∷ items) more → has more other
    → has items other ⊎ (ending ≡ other)
only_more items more ending other pushed there =
    elim (Contains-append_cases (record { 0 = ending } ∷ []) items (record { 0 = other })
    (Contains-permutation more (record { 0 = ending } ∷ items) (record { 0 = other }) (IsPermutation-sym (record { 0 = ending } ∷ items) more pushed) there)) [
      | inl here ↦ inr (ap (λ (e : Reverse NamedEnding). e.0) (only (record { 0 = ending }) (record { 0 = other }) here))
      | inr later ↦ inl later
    ]

-- one less

first_is : (items : List (Reverse NamedEnding)) (x : Reverse NamedEnding) → 0 < length items → x ≡ slice_index_or items 0 x → first_in items ≡ Some x.0
first_is [] x some is = absurd (omega (arith, some))
first_is (y ∷ items) x some is = ap (λ (e : Reverse NamedEnding). Some e.0) (sym is)

pub listed_less : (items rest : List (Reverse NamedEnding)) (x : Reverse NamedEnding) (ending : NamedEnding) → 0 < length items → x ≡ slice_index_or items 0 x
    → IsPermutation items (x ∷ rest) → has items ending
    → (first_in items ≡ Some ending) ⊎ has rest ending
listed_less items rest x ending some top popped there =
    elim (Contains-append_cases (x ∷ []) rest (record { 0 = ending }) (Contains-permutation items (x ∷ rest) (record { 0 = ending }) popped there)) [
      | inl here ↦ inl (first_is items x some top ∙ ap (λ (e : Reverse NamedEnding). Some e.0) (only x (record { 0 = ending }) here))
      | inr later ↦ inr later
    ]

pub listed_before : (items rest : List (Reverse NamedEnding)) (x : Reverse NamedEnding) (ending : NamedEnding) → IsPermutation items (x ∷ rest)
    → has rest ending
    → has items ending
listed_before items rest x ending popped there =
    Contains-permutation (x ∷ rest) items (record { 0 = ending }) (IsPermutation-sym items (x ∷ rest) popped)
    (Contains-append_right (x ∷ []) rest (record { 0 = ending }) there)

-- the soonest is listed
pub first_listed : (endings : Endings) (first : NamedEnding) → IsSoonest endings first → Lists endings first
first_listed endings first soon = by (heap_items endings.heap) soon.is
  where
    by : (items : List (Reverse NamedEnding)) → first_in items ≡ Some first → has items first
    by [] is = cc
    by (e ∷ items) is = let it : e.0 ≡ first = cc in subst (λ (x : NamedEnding). has (e ∷ items) x) it (0, omega arith, refl)
