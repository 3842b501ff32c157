-- The two least devices that act, found by going through the list.
use Rattle.std.specs.Prelude.{◌≡◌, ℕ, zero, suc, ◌+◌, ◌<◌, Bool, true, false, List, [], ◌∷◌, ◌++◌, length, filter, Some, if◌then◌else◌}
use Rattle.std.proofs.Common.{refl, ap, ◌∙◌, arith, inl, inr, add-one, get_or}
use Rattle.std.proofs.lemmas.Bool.{cases_lt}
use Rattle.std.proofs.lemmas.List.Elements.{filter-append}
use Rattle.std.proofs.lemmas.Option.{slice_get-get_or}
use Rattle.sd_num.specs.Lists.{below, map_or, at_place}
use Rattle.sd_replay.specs.watch.Watch.{two_least}

-- what the list says at a place
pub acts_at : (acting : List Bool) (d : ℕ) → d < length acting → at_place acting d false (λ acts. acts) ≡ get_or acting d false
acts_at acting d within = ap (λ o. map_or o false (λ acts. acts)) (slice_get-get_or acting d false within)

module _ (p : ℕ → Bool) where
  -- one number more
  pub one_passes : (k : ℕ) → p k ≡ true → filter p (below (k + 1)) ≡ filter p (below k) ++ k ∷ []
  one_passes k passes = ap (λ n. filter p (below n)) (add-one k) ∙ filter-append p (below k) (k ∷ [])
      ∙ ap (λ b. filter p (below k) ++ (if b then k ∷ [] else [])) passes

  pub one_fails : (k : ℕ) → p k ≡ false → filter p (below (k + 1)) ≡ filter p (below k)
  one_fails k fails = ap (λ n. filter p (below n)) (add-one k) ∙ filter-append p (below k) (k ∷ [])
      ∙ ap (λ b. filter p (below k) ++ (if b then k ∷ [] else [])) fails ∙ nothing (filter p (below k))
    where
      nothing : (xs : List ℕ) → xs ++ [] ≡ xs
      nothing [] = refl
      nothing (x ∷ xs) = ap (λ ys. x ∷ ys) (nothing xs)

  -- the two least stay when more come after them
  two_stay : (d e : ℕ) (xs ys : List ℕ) → two_least xs ≡ Some (d, e) → two_least (xs ++ ys) ≡ Some (d, e)
  two_stay d e [] ys is = cc
  two_stay d e (x ∷ []) ys is = cc
  two_stay d e (x ∷ y ∷ xs) ys is = is

  -- the second that passes
  pub second_found : (d e n : ℕ) → e < n → filter p (below e) ≡ d ∷ [] → p e ≡ true → two_least (filter p (below n)) ≡ Some (d, e)
  second_found d e zero within first passes = absurd (omega arith)
  second_found d e (suc n) within first passes = elim (cases_lt e n) [
    | inl before ↦ ap two_least (filter-append p (below n) (n ∷ []))
        ∙ two_stay d e (filter p (below n)) (filter p (n ∷ [])) (second_found d e n before first passes)
    | inr last ↦
        let same : suc n ≡ e + 1 = omega arith in
        ap (λ m. two_least (filter p (below m))) same ∙ ap two_least (one_passes e passes) ∙ ap (λ xs. two_least (xs ++ e ∷ [])) first
  ]
