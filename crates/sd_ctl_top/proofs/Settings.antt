-- Words that are not four give no settings, and words that are not two no budget.
use Rattle.std.proofs.Common.{◌≡◌, ◌<◌, ℕ, List, [], ◌∷◌, None, arith, length, map, refl}
use Rattle.sd_ctl_top.specs.Words.{budget_among, settings_among}

module _ {A : Type 0} (bytes : A → List ℕ) where
  -- fewer words
  pub too_few : (words : List A) → length words < 4 → None ≡ settings_among (map bytes words)
  too_few [] few = refl
  too_few (base ∷ []) few = refl
  too_few (base ∷ hold ∷ []) few = refl
  too_few (base ∷ hold ∷ seed ∷ []) few = refl
  too_few (base ∷ hold ∷ seed ∷ steps ∷ others) few = absurd (omega arith)

  -- more words
  pub too_many : (words : List A) → 4 < length words → None ≡ settings_among (map bytes words)
  too_many [] many = absurd (omega arith)
  too_many (base ∷ []) many = absurd (omega arith)
  too_many (base ∷ hold ∷ []) many = absurd (omega arith)
  too_many (base ∷ hold ∷ seed ∷ []) many = absurd (omega arith)
  too_many (base ∷ hold ∷ seed ∷ steps ∷ []) many = absurd (omega arith)
  too_many (base ∷ hold ∷ seed ∷ steps ∷ next ∷ others) many = refl

  -- fewer words than two
  pub few_for_budget : (words : List A) → length words < 2 → None ≡ budget_among (map bytes words)
  few_for_budget [] few = refl
  few_for_budget (base ∷ []) few = refl
  few_for_budget (base ∷ hold ∷ others) few = absurd (omega arith)

  -- more words than two
  pub many_for_budget : (words : List A) → 2 < length words → None ≡ budget_among (map bytes words)
  many_for_budget [] many = absurd (omega arith)
  many_for_budget (base ∷ []) many = absurd (omega arith)
  many_for_budget (base ∷ hold ∷ []) many = absurd (omega arith)
  many_for_budget (base ∷ hold ∷ next ∷ others) many = refl
