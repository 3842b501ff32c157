-- Ascending lists of numbers below a count: they are the numbers that they have.
use Rattle.std.proofs.Common.{◌≡◌, ℕ, zero, suc, ◌+◌, ◌<◌, ◌≤◌, Bool, true, false, cond, nat_eq, List, [], ◌∷◌, ◌++◌, filter, refl, ap, sym, ◌∙◌, subst, arith, All, nat_cmp, Less, add-zero}
use Rattle.std.specs.List.{IsDistinct, AllByRecursion}
use Rattle.std.specs.List.Sorted.{IsStrictlySortedBy, IsPermutation, IsSorted}
use Rattle.std.proofs.lemmas.Bool.{ne_eqb, eqb-true}
use Rattle.std.proofs.lemmas.Bool.Decides.{nat_tests}
use Rattle.std.proofs.lemmas.List.Elements.{All-head, All-tail, All-cons}
use Rattle.std.proofs.lemmas.List.Sorted.{list_any-IsPermutation, All-permutation, IsNonDecreasingBy-from_sort}
use Rattle.std.proofs.lemmas.Map.Keys.{IsDistinct-IsPermutation, IsStrictlyIncreasing-from_distinct, sorted_from_strictly_increasing}
use Rattle.sd_num.specs.Lists.{below, has, ascending}

-- the numbers ascend strictly from a on
abbrev pub Rises : ℕ → List ℕ → Type 0
Rises a [] = Unit {0}
Rises a (y ∷ ys) = (a ≤ y) × Rises (suc y) ys

-- k numbers from a on
run : ℕ → ℕ → List ℕ
run a zero = []
run a (suc k) = a ∷ run (suc a) k

-- one more number at the end
run-last : (a k : ℕ) → run a (suc k) ≡ run a k ++ (a + k) ∷ []
unfolding run
run-last a zero = rw (add-zero a) refl
run-last a (suc k) = ap (λ (l : List ℕ). a ∷ l) (run-last (suc a) k ∙ ap (λ n. run (suc a) k ++ n ∷ []) (shift a k))
  where
    shift : (a k : ℕ) → suc a + k ≡ a + suc k
    shift a k = omega arith

-- the numbers below n are a run from 0 on
below-run : (n : ℕ) → below n ≡ run 0 n
unfolding run
below-run zero = refl
below-run (suc n) = ap (λ (l : List ℕ). l ++ n ∷ []) (below-run n) ∙ ap (λ m. run 0 n ++ m ∷ []) (plus n) ∙ sym (run-last 0 n)
  where
    plus : (n : ℕ) → n ≡ 0 + n
    plus n = omega arith

-- what ascends from above x has not x
has-low : (a x : ℕ) (ys : List ℕ) → Rises a ys → x < a → has ys x ≡ false
has-low a x [] up low = refl
has-low a x (y ∷ ys) up low = let other : nat_eq x y ≡ false = ne_eqb x y (λ e. omega arith) in
    let rest : has ys x ≡ false = has-low (suc y) x ys up.1 (omega arith) in rw (other, rest) refl

-- a lesser first number changes nothing further up
filter-skip : (k a y : ℕ) (ys : List ℕ) → y < a → filter (has (y ∷ ys)) (run a k) ≡ filter (has ys) (run a k)
unfolding run
filter-skip zero a y ys above = refl
filter-skip (suc k) a y ys above =
    let other : nat_eq a y ≡ false = ne_eqb a y (λ e. omega arith) in
    rw (other, filter-skip k (suc a) y ys (omega arith)) refl

-- the numbers of a run that a rising list has are the list
filter-run : (k a : ℕ) (ys : List ℕ) → Rises a ys → All (λ y. y < a + k) ys → filter (has ys) (run a k) ≡ ys
unfolding run
filter-run zero a [] up bound = refl
filter-run zero a (y ∷ ys) up bound = let h : y < a + 0 = All-head (λ z. z < a + 0) y ys bound in absurd (omega arith)
filter-run (suc k) a [] up bound = filter-run k (suc a) [] tt (λ i d h. absurd (omega arith))
filter-run (suc k) a (y ∷ ys) up bound = by (nat_eq a y) refl (filter-run k (suc a))
  where
    shift : (z : ℕ) → z < a + suc k → z < suc a + k
    shift z h = omega arith

    above_of : a ≤ y → nat_eq a y ≡ false → suc a ≤ y
    above_of le ne = grind (arith, nat_tests)

    by : (b : Bool) → nat_eq a y ≡ b → ((zs : List ℕ) → Rises (suc a) zs → All (λ z. z < suc a + k) zs → filter (has zs) (run (suc a) k) ≡ zs)
        → filter (has (y ∷ ys)) (run a (suc k)) ≡ y ∷ ys
    by true same more =
        let e : a ≡ y = eqb-true a y same in
        let rest : filter (has ys) (run (suc a) k) ≡ ys =
        more ys (subst (λ n. Rises (suc n) ys) (sym e) up.1) (λ i d h. shift _ (All-tail (λ z. z < a + suc k) y ys bound i d h)) in
        rw (same, filter-skip k (suc a) y ys (omega arith), rest, e) refl
    by false other more =
        let above : suc a ≤ y = above_of up.0 other in
        let none : has ys a ≡ false = has-low (suc y) a ys up.1 (omega arith) in
        rw (other, none) (more (y ∷ ys) (above, up.1) (λ i d h. shift _ (bound i d h)))

-- strictly sorted numbers rise
rises : (a : ℕ) (ys : List ℕ) → IsStrictlySortedBy nat_cmp ys → AllByRecursion (λ y. a ≤ y) ys → Rises a ys
unfolding IsStrictlySortedBy
rises a [] up from = tt
rises a (y ∷ ys) up from = (from.0, rises (suc y) ys up.1 (above ys up.0))
  where
    less : (m n : ℕ) → nat_cmp m n ≡ Less → suc m ≤ n
    less m n h = grind (arith, nat_tests)

    above : (zs : List ℕ) → AllByRecursion (λ z. nat_cmp y z ≡ Less) zs → AllByRecursion (λ z. suc y ≤ z) zs
    above [] h = tt
    above (z ∷ zs) h = (less y z h.0, above zs h.1)

-- every number is at least 0
from_zero : (ys : List ℕ) → AllByRecursion (λ y. 0 ≤ y) ys
from_zero [] = tt
from_zero (y ∷ ys) = (omega arith, from_zero ys)

-- equal tests keep the same elements
filter-same : (p q : ℕ → Bool) → ((n : ℕ) → p n ≡ q n) → (xs : List ℕ) → filter p xs ≡ filter q xs
filter-same p q same [] = refl
filter-same p q same (x ∷ xs) = rw (same x, filter-same p q same xs) refl

-- sorting distinct numbers below a count makes them ascend
pub sorted_ascending : (count : ℕ) (xs ys : List ℕ) → IsDistinct nat_eq xs → All (λ n. n < count) xs → IsPermutation xs ys → IsSorted nat_cmp ys
    → ys ≡ ascending count xs
sorted_ascending count xs ys apart bound moved sorted =
    let apart_after = IsDistinct-IsPermutation nat_eq flips xs ys moved apart in
    let up = rises 0 ys
    (sorted_from_strictly_increasing ys (IsStrictlyIncreasing-from_distinct ys (IsNonDecreasingBy-from_sort (λ x. x) ys sorted) apart_after))
    (from_zero ys) in
    let within : All (λ n. n < 0 + count) ys = λ i d h. plus _ (All-permutation (λ n. n < count) xs ys moved bound i d h) in
    sym (filter-same (has xs) (has ys) (λ n. list_any-IsPermutation (nat_eq n) xs ys moved) (below count)
    ∙ ap (filter (has ys)) (below-run count) ∙ filter-run count 0 ys up within)
  where
    flips : (x y : ℕ) → nat_eq x y ≡ nat_eq y x
    flips x y = grind (arith, nat_tests)

    plus : (n : ℕ) → n < count → n < 0 + count
    plus n h = omega arith

-- numbers from a on that pass a test rise, below the end
filter-rises : (p : ℕ → Bool) (k a : ℕ) → Rises a (filter p (run a k)) × All (λ n. n < a + k) (filter p (run a k))
unfolding run
filter-rises p zero a = (tt, λ i d h. absurd (omega arith))
filter-rises p (suc k) a = by (p a) (filter-rises p k (suc a))
  where
    weaker : (ys : List ℕ) → Rises (suc a) ys → Rises a ys
    weaker [] up = tt
    weaker (y ∷ ys) up = (omega arith, up.1)

    wider : (ys : List ℕ) → All (λ n. n < suc a + k) ys → All (λ n. n < a + suc k) ys
    wider ys within i d h = let low = within i d h in omega arith

    first : a < a + suc k
    first = omega arith

    by : (b : Bool) → (Rises (suc a) (filter p (run (suc a) k)) × All (λ n. n < suc a + k) (filter p (run (suc a) k)))
        → Rises a (cond b (a ∷ filter p (run (suc a) k)) (filter p (run (suc a) k)))
        × All (λ n. n < a + suc k) (cond b (a ∷ filter p (run (suc a) k)) (filter p (run (suc a) k)))
    by true rest = ((omega arith, rest.0), All-cons (λ n. n < a + suc k) a (filter p (run (suc a) k)) first (wider (filter p (run (suc a) k)) rest.1))
    by false rest = (weaker (filter p (run (suc a) k)) rest.0, wider (filter p (run (suc a) k)) rest.1)

-- numbers below a count that pass a test rise, below the count
pub rising : (p : ℕ → Bool) (count : ℕ) → Rises 0 (filter p (below count)) × All (λ n. n < count) (filter p (below count))
rising p count =
    subst (λ (l : List ℕ). Rises 0 (filter p l) × All (λ n. n < count) (filter p l)) (sym (below-run count))
    (let (up, within) = filter-rises p count 0 in (up, λ i d h. minus _ (within i d h)))
  where
    minus : (n : ℕ) → n < 0 + count → n < count
    minus n h = omega arith

-- an ascending list below a count is what the count has of it
pub ascending-itself : (count : ℕ) (ys : List ℕ) → Rises 0 ys → All (λ n. n < count) ys → ascending count ys ≡ ys
ascending-itself count ys up within = ap (filter (has ys)) (below-run count) ∙ filter-run count 0 ys up (λ i d h. plus _ (within i d h))
  where
    plus : (n : ℕ) → n < count → n < 0 + count
    plus n h = omega arith
