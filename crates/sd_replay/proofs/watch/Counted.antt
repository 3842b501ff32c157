-- That a device comes back can be computed, where only devices below a count have parents: it does within as many steps as they are.
use Rattle.std.specs.Prelude.{◌≡◌, ◌↔◌, ℕ, zero, suc, ◌+◌, ◌<◌, Bool, true, false, [], ◌∷◌, find, Option, Some, None, MatchOption}
use Rattle.std.specs.List.{list_any}
use Rattle.std.proofs.Common.{sym, ap, ◌∙◌, arith, inl, inr, add-one}
use Rattle.std.proofs.lemmas.Bool.{or_cases, false_from_ne_true}
use Rattle.std.proofs.lemmas.List.Folds.{list_any-append}
use Rattle.sd_num.specs.Lists.{below, same_number, follow}
use Rattle.sd_num.proofs.Firsts.{find_below_none, find_below_here}
use Rattle.sd_num.proofs.Shared.{same_number-some, some-same_number, any_below_at}
use Rattle.sd_replay.specs.watch.Watch.{IsOnLoop, HasNoLoop, IsFirstOnLoop}
use Rattle.sd_replay.proofs.watch.Following.{on_the_way}
use Rattle.sd_replay.proofs.watch.Within.{back_within}

-- some number below a bound passes a test
any_below : (p : ℕ → Bool) (n : ℕ) → list_any p (below n) ≡ true → (k : ℕ) × (p k ≡ true)
any_below p zero some = cc
any_below p (suc n) some = elim (or_cases (list_any p (below n)) (list_any p (n ∷ [])) (sym (list_any-append p (below n) (n ∷ [])) ∙ some)) [
  | inl before ↦ any_below p n before
  | inr last ↦ elim (or_cases (p n) false last) [ inl it ↦ (n, it) | inr none ↦ cc ]
]

module _ (parent : ℕ → Option ℕ) (count : ℕ) (only : (e p : ℕ) → parent e ≡ Some p → e < count) where
  -- following parents comes back to d within this many steps
  abbrev pub comes_back : ℕ → Bool
  comes_back d = list_any (λ n. same_number (follow parent (n + 1) d) d) (below count)

  pub on_loop_by : (d : ℕ) → comes_back d ≡ true → IsOnLoop parent d
  on_loop_by d back =
      let some = any_below (λ n. same_number (follow parent (n + 1) d) d) count back in
      record { steps = some.0; back = ap (λ n. follow parent n d) (sym (add-one some.0)) ∙ same_number-some (follow parent (some.0 + 1) d) d some.1 }

  pub by_on_loop : (d : ℕ) → IsOnLoop parent d → comes_back d ≡ true
  by_on_loop d loop =
      let back = back_within parent d count only loop in
      any_below_at (λ n. same_number (follow parent (n + 1) d) d) count back.0 back.1
      (some-same_number (follow parent (back.0 + 1) d) d (ap (λ n. follow parent n d) (add-one back.0) ∙ back.2))

  -- it is on a loop exactly where it does
  pub comes_back_on_loop : (d : ℕ) → (comes_back d ≡ true) ↔ IsOnLoop parent d
  comes_back_on_loop d = (on_loop_by d, by_on_loop d)

  -- the first that comes back is the least device on a loop, and there is none where there is no loop
  pub first_back : (first : Option ℕ) → MatchOption first (HasNoLoop parent) (λ d. IsFirstOnLoop parent d) → find comes_back (below count) ≡ first
  first_back None none = find_below_none comes_back count (λ d within. false_from_ne_true (comes_back d) (λ back. none d (on_loop_by d back)))
  first_back (Some d) is =
      let back = back_within parent d count only is.on_loop in
      find_below_here comes_back d count (in_count back.0 back.2)
      (find_below_none comes_back d (λ e less. false_from_ne_true (comes_back e) (λ again. is.least e less (on_loop_by e again))))
      (by_on_loop d is.on_loop)
    where
      in_count : (n : ℕ) → follow parent (suc n) d ≡ Some d → d < count
      in_count n back = let first = on_the_way parent n 1 (suc n) d d (omega arith) back in only d first.0 first.1
