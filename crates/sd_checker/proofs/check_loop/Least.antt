-- The least endless successor of a place.
use Rattle.std.proofs.Common.{◌≡◌, ℕ, ◌≤◌, true, ◌⊎◌, List, min, Option, Some, None, refl, sym, ap, ◌∙◌, inl, inr, arith}
use Rattle.std.proofs.lemmas.Bool.{or_cases, cases_lt}
use Rattle.sd_num.specs.Lists.{same_number}
use Rattle.sd_num.proofs.Shared.{same_number-some}
use Rattle.sd_checker.specs.check_loop.Graphs.{leads, successors_at}
use Rattle.sd_checker.specs.check_loop.Markings.{mark_at, IsMarked}
use Rattle.sd_checker.specs.check_loop.Shown.{endless_by, endless_at, lesser, next_endless}
use Rattle.sd_checker.specs.declared.check_loop.graph.Successors.{Successors}
use Rattle.sd_checker.specs.declared.check_loop.marking.Mark.{Mark}
use Rattle.sd_checker.specs.declared.check_loop.marking.Mark.TheVariants as mark
use Rattle.sd_checker.proofs.check_loop.Searching.{leads_first, leads_second}

-- a successor that is kept is there, and endless
endless_parts : (marks : List Mark) (o : Option ℕ) (j : ℕ) → endless_at marks o ≡ Some j → (o ≡ Some j) × (mark_at marks j ≡ mark.Endless)
endless_parts marks None j is = cc
endless_parts marks (Some i) j is = by (mark_at marks i) refl is
  where
    by : (m : Mark) → mark_at marks i ≡ m → endless_by i m ≡ Some j → (Some i ≡ Some j) × (mark_at marks j ≡ mark.Endless)
    by mark.New at some = cc
    by mark.Entered at some = cc
    by mark.Ending at some = cc
    by mark.Endless at some = let same : i ≡ j = cc in (ap Some same, ap (mark_at marks) (sym same) ∙ at)

-- an endless successor is kept
endless_kept : (marks : List Mark) (o : Option ℕ) (j : ℕ) → o ≡ Some j → mark_at marks j ≡ mark.Endless → endless_at marks o ≡ Some j
endless_kept marks o j is endless = ap (endless_at marks) is ∙ ap (endless_by j) endless

-- the lesser is one of the two
lesser_one : (a b : Option ℕ) (j : ℕ) → lesser a b ≡ Some j → (a ≡ Some j) ⊎ (b ≡ Some j)
lesser_one None b j is = inr is
lesser_one (Some a) None j is = inl is
lesser_one (Some a) (Some b) j is =
    let least : min a b ≡ j = cc in
    elim (cases_lt a b) [
      | inl before ↦ (let same : a ≡ j = omega arith in inl (ap Some same))
      | inr after ↦ (let same : b ≡ j = omega arith in inr (ap Some same))
    ]

-- and no greater than either
lesser_least : (a b : Option ℕ) (j k : ℕ) → lesser a b ≡ Some j → (a ≡ Some k) ⊎ (b ≡ Some k) → j ≤ k
lesser_least None b j k is (inl none) = cc
lesser_least None b j k is (inr other) = let same : Some j ≡ Some k = sym is ∙ other in let equal : j ≡ k = cc in omega arith
lesser_least (Some a) None j k is (inl other) = let same : Some j ≡ Some k = sym is ∙ other in let equal : j ≡ k = cc in omega arith
lesser_least (Some a) None j k is (inr none) = cc
lesser_least (Some a) (Some b) j k is (inl other) = let least : min a b ≡ j = cc in let equal : a ≡ k = cc in omega arith
lesser_least (Some a) (Some b) j k is (inr other) = let least : min a b ≡ j = cc in let equal : b ≡ k = cc in omega arith

-- where one of the two is there, there is a lesser one
lesser_there : (a b : Option ℕ) (k : ℕ) → (a ≡ Some k) ⊎ (b ≡ Some k) → (j : ℕ) × (lesser a b ≡ Some j)
lesser_there None b k (inl none) = cc
lesser_there None b k (inr other) = (k, other)
lesser_there (Some a) None k some = (a, refl)
lesser_there (Some a) (Some b) k some = (min a b, refl)

module _ (graph : List Successors) (marks : List Mark) (i : ℕ) where
  -- an endless successor is one of the two that are kept
  one_kept : (k : ℕ) → leads graph i k ≡ true → mark_at marks k ≡ mark.Endless
      → (endless_at marks (successors_at graph i).primary ≡ Some k) ⊎ (endless_at marks (successors_at graph i).backup ≡ Some k)
  one_kept k led endless =
      let s = successors_at graph i in
      elim (or_cases (same_number s.primary k) (same_number s.backup k) led) [
        | inl here ↦ inl (endless_kept marks s.primary k (same_number-some s.primary k here) endless)
        | inr here ↦ inr (endless_kept marks s.backup k (same_number-some s.backup k here) endless)
      ]

  pub next_parts : (j : ℕ) → next_endless graph marks i ≡ Some j → (leads graph i j ≡ true) × (mark_at marks j ≡ mark.Endless)
  next_parts j is =
      let s = successors_at graph i in
      elim (lesser_one (endless_at marks s.primary) (endless_at marks s.backup) j is) [
        | inl here ↦ (let both = endless_parts marks s.primary j here in (leads_first graph i j both.0, both.1))
        | inr here ↦ (let both = endless_parts marks s.backup j here in (leads_second graph i j both.0, both.1))
      ]

  pub next_least : (j k : ℕ) → next_endless graph marks i ≡ Some j → leads graph i k ≡ true → mark_at marks k ≡ mark.Endless → j ≤ k
  next_least j k is led endless =
      let s = successors_at graph i in
      lesser_least (endless_at marks s.primary) (endless_at marks s.backup) j k is (one_kept k led endless)

  -- an endless place has an endless successor
  pub next_there : IsMarked graph marks → mark_at marks i ≡ mark.Endless → (j : ℕ) × (next_endless graph marks i ≡ Some j)
  next_there marked endless =
      let s = successors_at graph i in
      let found = marked.goes_on i endless in
      lesser_there (endless_at marks s.primary) (endless_at marks s.backup) found.0 (one_kept found.0 found.1 found.2)
