-- The premise of loss holds exactly where no more consecutive rounds than its limit are spoiled.
use Rattle.std.proofs.Common.{◌≡◌, ℕ, zero, suc, ◌+◌, ◌<◌, ◌≤◌, Bool, true, false, ◌&&◌, not, List, [], ◌∷◌, ◌++◌, nat_eq, ◌⊎◌, inl, inr, refl, sym, ◌∙◌, ap, subst, arith}
use Rattle.std.specs.List.{Contains, list_any, list_all}
use Rattle.std.proofs.lemmas.Bool.{or_cases, and_parts, and_cases, eqb-true, not-false, not_from_true, cases_lt}
use Rattle.std.proofs.lemmas.List.Folds.{list_all-append, list_all_at}
use Rattle.sd_num.specs.Lists.{below}
use Rattle.sd_num.proofs.Shared.{all_below, and_true}
use Rattle.sd_device.specs.declared.msg.Stamp.{Stamp}
use Rattle.sd_history.specs.World.{Setting, Seen}
use Rattle.sd_history.specs.Premises.{spoiled_rounds, is_round, all_from, loss_holds}
use Rattle.sd_history.specs.Rounds.{is_spoiled}
use Rattle.sd_monitors.specs.loss.flights.Runs.{HasLongRun}

-- Tests of all and of some

all_push : (p : ℕ → Bool) (xs : List ℕ) (x : ℕ) → list_all p (xs ++ x ∷ []) ≡ (list_all p xs && p x)
all_push p xs x = list_all-append p xs (x ∷ []) ∙ ap (λ b. list_all p xs && b) (and_true (p x))

below_at : (p : ℕ → Bool) (k i : ℕ) → list_all p (below k) ≡ true → i < k → p i ≡ true
below_at p zero i all less = absurd (omega (arith, less))
below_at p (suc k) i all less =
    by_place (and_parts (list_all p (below k)) (p k) (sym (all_push p (below k) k) ∙ all)) (cases_lt i k) (λ some shorter. below_at p k i some shorter)
  where
    by_place : (list_all p (below k) ≡ true) × (p k ≡ true) → (i < k) ⊎ (k ≤ i) → (list_all p (below k) ≡ true → i < k → p i ≡ true) → p i ≡ true
    by_place (some, last) (inl shorter) rest = rest some shorter
    by_place (some, last) (inr long) rest = let same : k ≡ i = omega (arith, less, long) in subst (λ (n : ℕ). p n ≡ true) same last

any_found : (p : Stamp → Bool) (xs : List Stamp) → list_any p xs ≡ true → (x : Stamp) × Contains xs x × (p x ≡ true)
any_found p [] any = cc
any_found p (y ∷ xs) any = by_case (or_cases (p y) (list_any p xs) any) (any_found p xs)
  where
    by_case : (p y ≡ true) ⊎ (list_any p xs ≡ true) → (list_any p xs ≡ true → (x : Stamp) × Contains xs x × (p x ≡ true))
        → (x : Stamp) × Contains (y ∷ xs) x × (p x ≡ true)
    by_case (inl here) rest = (y, (zero, omega arith, refl), here)
    by_case (inr later) rest = let found = rest later in (found.0, (suc found.1.0, omega (arith, found.1.1), found.1.2), found.2)

fails_found : (p : Stamp → Bool) (xs : List Stamp) → list_all p xs ≡ false → (x : Stamp) × Contains xs x × (p x ≡ false)
fails_found p [] fails = cc
fails_found p (y ∷ xs) fails = by_case (and_cases (p y) (list_all p xs) fails) (fails_found p xs)
  where
    by_case : (p y ≡ false) ⊎ (list_all p xs ≡ false) → (list_all p xs ≡ false → (x : Stamp) × Contains xs x × (p x ≡ false))
        → (x : Stamp) × Contains (y ∷ xs) x × (p x ≡ false)
    by_case (inl here) rest = (y, (zero, omega arith, refl), here)
    by_case (inr later) rest = let found = rest later in (found.0, (suc found.1.0, omega (arith, found.1.1), found.1.2), found.2)

-- The premise

-- where it is broken, more consecutive rounds than the limit are spoiled
pub broken_is_long : (setting : Setting) (seen : List Seen) → loss_holds setting seen ≡ false → HasLongRun setting.net.params.loss (is_spoiled seen)
broken_is_long setting seen broken =
    let rounds = spoiled_rounds seen in
    let limit = setting.net.params.loss in
    let found = fails_found (λ r. not (all_from rounds r.term r.round (limit + 1))) rounds broken in
    let first = found.0 in (
      first.term,
      first.round,
      λ i le. below_at (λ j. list_any (λ other. is_round other first.term (first.round + j)) rounds) (limit + 1) i (not-false _ found.2)
          (omega (arith, le)),
    )

-- where more are spoiled, it is broken
pub long_is_broken : (setting : Setting) (seen : List Seen) → HasLongRun setting.net.params.loss (is_spoiled seen) → loss_holds setting seen ≡ false
long_is_broken setting seen (term, round, each) =
    list_all_at no_long rounds first.1.0 first.0 first.1.1 (subst (λ (x : Stamp). no_long x ≡ false) (sym first.1.2) (not_from_true _ all_there))
  where
    rounds : List Stamp
    rounds = spoiled_rounds seen

    no_long : Stamp → Bool
    no_long r = not (all_from rounds r.term r.round (setting.net.params.loss + 1))

    first : (x : Stamp) × Contains rounds x × (is_round x term (round + 0) ≡ true)
    first = any_found (λ other. is_round other term (round + 0)) rounds (each 0 (omega arith))

    same_term : first.0.term ≡ term
    same_term = eqb-true first.0.term term (and_parts (nat_eq first.0.term term) (nat_eq first.0.round (round + 0)) first.2).0

    same_round : (i : ℕ) → first.0.round + i ≡ round + i
    same_round i = omega (arith, eqb-true first.0.round (round + 0) ((and_parts (nat_eq first.0.term term) (nat_eq first.0.round (round + 0)) first.2).1))

    there : (t r : ℕ) → Bool
    there t r = list_any (λ other. is_round other t r) rounds

    all_there : all_from rounds first.0.term first.0.round (setting.net.params.loss + 1) ≡ true
    all_there =
        all_below (λ i. there first.0.term (first.0.round + i)) (setting.net.params.loss + 1)
        (λ i less. subst (λ (t : ℕ). there t (first.0.round + i) ≡ true) (sym same_term)
        (subst (λ (r : ℕ). there term r ≡ true) (sym (same_round i)) (each i (omega (arith, less)))))
