-- Numbers of which none comes twice.
use Rattle.std.specs.Prelude.{◌≡◌, ℕ, ◌<◌, ◌≤◌, true, false, List, [], ◌∷◌, length, nat_eq}
use Rattle.std.specs.List.{IsDistinct}
use Rattle.std.proofs.lemmas.Map.Steps.{length-le_from_distinct_below}
use Rattle.sd_num.specs.Lists.{has}
use Rattle.sd_num.proofs.Shared.{differs}

-- none of the numbers comes twice
abbrev pub AreDistinct : List ℕ → Type 0
AreDistinct [] = Unit {0}
AreDistinct (x ∷ xs) = (has xs x ≡ false) × AreDistinct xs

as_distinct : (xs : List ℕ) → AreDistinct xs → IsDistinct nat_eq xs
unfolding IsDistinct
as_distinct [] all = tt
as_distinct (x ∷ xs) all = (differs x xs all.0, as_distinct xs all.1)

-- numbers below a bound, none twice, are as many at most
pub few : (xs : List ℕ) (n : ℕ) → AreDistinct xs → ((x : ℕ) → has xs x ≡ true → x < n) → length xs ≤ n
few xs n all within = length-le_from_distinct_below xs n (as_distinct xs all) within
