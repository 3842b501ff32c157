-- A failure to which numbers are added one by one.
use Rattle.std.proofs.Common.{◌≡◌, ℕ, ◌+◌, ◌<◌, ◌||◌, Bool, true, false, List, [], ◌∷◌, ◌++◌, length, get_or, take, nat_eq, refl, sym, ap, ◌∙◌}
use Rattle.std.specs.Ordering.{nat_cmp}
use Rattle.std.specs.FinSet as set
use Rattle.std.specs.FinSet.{FinSet}
use Rattle.std.proofs.lemmas.List.{take_more}
use Rattle.sd_num.specs.Lists.{has}
use Rattle.sd_num.proofs.Places.{has_more}
use Rattle.sd_plan.proofs.domain.Members.{contains-insert-nat}

-- a set that has what an old one had, and the first of some numbers, has one more of them once the next is put in
pub added_more : (numbers : List ℕ) (i x : ℕ) (old before : FinSet nat_cmp) → i < length numbers → x ≡ get_or numbers i 0
    → ((d : ℕ) → set.contains before d ≡ (set.contains old d || has (take i numbers) d))
    → (d : ℕ) → set.contains (set.insert before x) d ≡ (set.contains old d || has (take (i + 1) numbers) d)
added_more numbers i x old before within is added d =
    contains-insert-nat before x d
    ∙ ap (λ t. nat_eq d x || t) (added d)
    ∙ turned (nat_eq d x) (set.contains old d) (has (take i numbers) d)
    ∙ ap (λ t. set.contains old d || t) (sym (has_more (take i numbers) x d) ∙ ap (λ y. has (take i numbers ++ y ∷ []) d) is
    ∙ ap (λ xs. has xs d) (sym (take_more numbers i 0 within)))
  where
    turned : (a b c : Bool) → (a || (b || c)) ≡ (b || (c || a))
    turned true true c = refl
    turned true false true = refl
    turned true false false = refl
    turned false true c = refl
    turned false false true = refl
    turned false false false = refl
