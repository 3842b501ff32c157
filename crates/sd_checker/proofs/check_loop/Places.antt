-- The places of numbers in a list that ascends.
use Rattle.std.proofs.Common.{◌≡◌, ◌≢◌, ℕ, zero, suc, ◌<◌, Bool, true, false, cond, ◌⊎◌, List, [], ◌∷◌, length, get_or, filter, nat_eq, Option, Some, None, option_map, refl, sym, subst, inl, inr, arith}
use Rattle.std.proofs.lemmas.Bool.{eq-eqb, ne_eqb, eqb-true, or_cases, or_left, or_right, cond-true, both_ways}
use Rattle.std.proofs.lemmas.List.Elements.{All-get_or, filter_passes}
use Rattle.std.proofs.lemmas.List.Folds.{list_any_at}
use Rattle.sd_num.specs.Lists.{ascends, has, below}
use Rattle.sd_num.proofs.Ascending.{tail_ascends, first_below}
use Rattle.sd_plan.proofs.topo.Ascending.{rising}
use Rattle.sd_plan.proofs.topo.Lists.{ascends-rising}
use Rattle.sd_plan.proofs.Numbered.{length-below, get_or-below}
use Rattle.sd_checker.specs.check_loop.Graphs.{place_in}

-- numbers that ascend rise from place to place
pub rise : (xs : List ℕ) → ascends xs ≡ true → (i j : ℕ) → i < j → j < length xs → get_or xs i 0 < get_or xs j 0
rise [] up i j order within = absurd (omega arith)
rise (x ∷ xs) up zero zero order within = absurd (omega arith)
rise (x ∷ xs) up zero (suc j) order within = first_below x xs j up (omega arith)
rise (x ∷ xs) up (suc i) zero order within = absurd (omega arith)
rise (x ∷ xs) up (suc i) (suc j) order within = rise xs (tail_ascends x xs up) i j (omega arith) (omega arith)

-- a place that is found
abbrev IsPlace : List ℕ → ℕ → ℕ → Type 0
IsPlace xs x i = (i < length xs) × (get_or xs i 0 ≡ x)

further_place : (y : ℕ) (ys : List ℕ) (x : ℕ) (o : Option ℕ) (i : ℕ) → ((k : ℕ) → o ≡ Some k → IsPlace ys x k) → option_map (λ k. suc k) o ≡ Some i
    → IsPlace (y ∷ ys) x i
further_place y ys x None i rest is = cc
further_place y ys x (Some k) i rest is =
    let at = rest k refl in
    let same : suc k ≡ i = cc in
    subst (λ (n : ℕ). IsPlace (y ∷ ys) x n) same (omega (arith, at.0), at.1)

-- where a number is found it stands
pub place_in-some : (xs : List ℕ) (x i : ℕ) → place_in xs x ≡ Some i → IsPlace xs x i
place_in-some [] x i is = cc
place_in-some (y ∷ ys) x i is = by (nat_eq y x) refl is (λ k at. place_in-some ys x k at)
  where
    first : nat_eq y x ≡ true → (0 ≡ i) → IsPlace (y ∷ ys) x i
    first same start = subst (λ (n : ℕ). IsPlace (y ∷ ys) x n) start (omega arith, eqb-true y x same)

    by : (b : Bool) → nat_eq y x ≡ b → cond b (Some 0) (option_map (λ k. suc k) (place_in ys x)) ≡ Some i → ((k : ℕ) → place_in ys x ≡ Some k → IsPlace ys x k)
        → IsPlace (y ∷ ys) x i
    by true same found rest = let start : 0 ≡ i = cc in first same start
    by false other found rest = further_place y ys x (place_in ys x) i rest found

-- a number that stands nowhere is not found
pub place_in-none : (xs : List ℕ) (x : ℕ) → ((k : ℕ) → k < length xs → get_or xs k 0 ≢ x) → place_in xs x ≡ None
place_in-none [] x apart = refl
place_in-none (y ∷ ys) x apart =
    let other : nat_eq y x ≡ false = ne_eqb y x (apart 0 (omega arith)) in
    rw (other, place_in-none ys x (λ k within. apart (suc k) (omega arith))) refl

-- of numbers that ascend each is found at its place
pub place_in-at : (xs : List ℕ) (i : ℕ) → ascends xs ≡ true → i < length xs → place_in xs (get_or xs i 0) ≡ Some i
place_in-at [] i up within = absurd (omega arith)
place_in-at (x ∷ xs) zero up within = cond-true (nat_eq x x) (Some 0) (option_map (λ k. suc k) (place_in xs x)) (eq-eqb x x refl)
place_in-at (x ∷ xs) (suc i) up within =
    let less : x < get_or xs i 0 = first_below x xs i up (omega arith) in
    let other : nat_eq x (get_or xs i 0) ≡ false = ne_eqb x (get_or xs i 0) (λ same. omega arith) in
    rw (other, place_in-at xs i (tail_ascends x xs up) (omega arith)) refl

-- numbers below a bound that pass a test
module _ (test : ℕ → Bool) (bound : ℕ) where
  pub passing_ascend : ascends (filter test (below bound)) ≡ true
  passing_ascend = ascends-rising 0 (filter test (below bound)) (rising test bound).0

  pub passing_at : (i : ℕ) → i < length (filter test (below bound)) → test (get_or (filter test (below bound)) i 0) ≡ true
  passing_at i within = All-get_or (λ n. test n ≡ true) (filter test (below bound)) i 0 within (filter_passes test (below bound))

  has_passing : (xs : List ℕ) (x : ℕ) → test x ≡ true → has xs x ≡ true → has (filter test xs) x ≡ true
  has_passing [] x passes there = there
  has_passing (y ∷ ys) x passes there = by (test y) refl (or_cases (nat_eq x y) (has ys x) there) (λ later. has_passing ys x passes later)
    where
      by : (b : Bool) → test y ≡ b → (nat_eq x y ≡ true) ⊎ (has ys x ≡ true) → (has ys x ≡ true → has (filter test ys) x ≡ true)
          → has (cond b (y ∷ filter test ys) (filter test ys)) x ≡ true
      by true is (inl here) rest = or_left (nat_eq x y) (has (filter test ys) x) here
      by true is (inr later) rest = or_right (nat_eq x y) (has (filter test ys) x) (rest later)
      by false is (inl here) rest = absurd (both_ways (test y) is (subst (λ (z : ℕ). test z ≡ true) (eqb-true x y here) passes))
      by false is (inr later) rest = rest later

  has_below : (x : ℕ) → x < bound → has (below bound) x ≡ true
  has_below x before =
      list_any_at (nat_eq x) (below bound) x 0 (rw (length-below bound) before) (eq-eqb x (get_or (below bound) x 0) (sym (get_or-below bound x 0 before)))

  -- a number that passes has a place
  pub passing_has : (x : ℕ) → x < bound → test x ≡ true → has (filter test (below bound)) x ≡ true
  passing_has x before passes = has_passing (below bound) x passes (has_below x before)
