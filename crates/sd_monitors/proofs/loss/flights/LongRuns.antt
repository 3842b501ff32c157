-- Whether more consecutive rounds of one term are there than the limit.
use Rattle.std.proofs.Common.{◌≡◌, ℕ, ◌+◌, ◌-◌, ◌<◌, ◌≤◌, Bool, true, false, ◌||◌, ◌&&◌, Option, nat_eq, ◌⊎◌, inl, inr, sym, ◌∙◌, subst, arith}
use Rattle.std.specs.Option.{is_some}
use Rattle.std.proofs.lemmas.Bool.{cases_lt, cases_eq, ne_eqb, or_cases, and_left, and_right, both_ways}
use Rattle.sd_monitors.specs.loss.flights.Runs.{IsRun}
use Rattle.sd_monitors.specs.loss.flights.Runs.{HasLongRun}

-- where all of some rounds are there, all of those that have them are
pub long_kept : (limit : ℕ) (old new : ℕ → ℕ → Bool) → ((t r : ℕ) → old t r ≡ true → new t r ≡ true) → HasLongRun limit old → HasLongRun limit new
long_kept limit old new kept long = (long.0, long.1, λ i le. kept long.0 (long.1 + i) (long.2 i le))

-- a run that is longer than the limit
pub long_run : (limit term first last : ℕ) (ends : ℕ → ℕ → Option ℕ) → IsRun (ends term) first last → limit ≤ last - first
    → HasLongRun limit (λ t r. is_some (ends t r))
long_run limit term first last ends run longer = (term, first, λ i le. run.each (first + i) (omega arith) (omega (arith, run.order, longer, le)))

-- a round that is not the new one was there before
was_before : (b here : Bool) → here ≡ false → (b || here) ≡ true → b ≡ true
was_before b here other there = elim (or_cases b here there) [ inl before ↦ before | inr this ↦ absurd (both_ways here other this) ]

module _ (limit term round first last : ℕ) (old new : ℕ → ℕ → Option ℕ)
    (rounds : (t r : ℕ) → is_some (new t r) ≡ (is_some (old t r) || (nat_eq term t && nat_eq round r)))
    (run : IsRun (new term) first last) (low : first ≤ round) (high : round ≤ last) (short : last - first < limit) where
  elsewhere : (t r : ℕ) → (term ≡ t → ⊥) → is_some (new t r) ≡ true → is_some (old t r) ≡ true
  elsewhere t r other there =
      was_before (is_some (old t r)) (nat_eq term t && nat_eq round r) (and_left (nat_eq term t) (nat_eq round r) (ne_eqb term t other))
      (sym (rounds t r) ∙ there)

  beside : (t r : ℕ) → (round ≡ r → ⊥) → is_some (new t r) ≡ true → is_some (old t r) ≡ true
  beside t r other there =
      was_before (is_some (old t r)) (nat_eq term t && nat_eq round r) (and_right (nat_eq term t) (nat_eq round r) (ne_eqb round r other))
      (sym (rounds t r) ∙ there)

  -- rounds of the term with the new one among them lie in the run
  within_run : (r : ℕ) → ((i : ℕ) → i ≤ limit → is_some (new term (r + i)) ≡ true) → r ≤ round → round ≤ r + limit → ⊥
  within_run r each above below = by_first (cases_lt r first) (cases_lt last (r + limit))
    where
      at : (n : ℕ) → r ≤ n → n ≤ r + limit → is_some (new term n) ≡ true
      at n from to = let place : r + (n - r) ≡ n = omega (arith, from) in
          subst (λ (m : ℕ). is_some (new term m) ≡ true) place (each (n - r) (omega (arith, to, from)))

      by_first : (r < first) ⊎ (first ≤ r) → (last < r + limit) ⊎ (r + limit ≤ last) → ⊥
      by_first (inl less) on_last =
          both_ways (is_some (new term (first - 1))) (run.before (first - 1) (omega (arith, less)))
          (at (first - 1) (omega (arith, less)) (omega (arith, low, below)))
      by_first (inr from) (inl more) = both_ways (is_some (new term (last + 1))) run.after (at (last + 1) (omega (arith, above, high)) (omega (arith, more)))
      by_first (inr from) (inr to) = omega (arith, from, to, short)

  -- a run that is not longer than the limit adds no long one
  pub short_run : (HasLongRun limit (λ t r. is_some (old t r)) → ⊥) → HasLongRun limit (λ t r. is_some (new t r)) → ⊥
  short_run none (t, r, each) = by_term (cases_eq term t)
    where
      by_round : ((i : ℕ) → i ≤ limit → is_some (new term (r + i)) ≡ true) → (round < r) ⊎ (r ≤ round) → (r + limit < round) ⊎ (round ≤ r + limit) → ⊥
      by_round all (inl before) on_end = none (term, r, λ i le. beside term (r + i) (λ e. omega (arith, before, e)) (all i le))
      by_round all (inr from) (inl after) = none (term, r, λ i le. beside term (r + i) (λ e. omega (arith, after, le, e)) (all i le))
      by_round all (inr from) (inr to) = within_run r all from to

      by_term : (term ≡ t) ⊎ (term ≡ t → ⊥) → ⊥
      by_term (inr other) = none (t, r, λ i le. elsewhere t (r + i) other (each i le))
      by_term (inl same) =
          by_round (λ i le. subst (λ (n : ℕ). is_some (new n (r + i)) ≡ true) (sym same) (each i le)) (cases_lt round r) (cases_lt (r + limit) round)
