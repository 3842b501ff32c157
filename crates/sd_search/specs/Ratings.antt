-- How good accepted plans are by their drills, over all fault domains and devices: the number of missing bounds counts first, then the greatest bound.
use Rattle.std.specs.Prelude.{◌≡◌, ℕ, zero, suc, ◌+◌, ◌<◌, ◌≤◌, ◌⊎◌, List, [], ◌∷◌, length, max, slice_get, Option, Some, None}
use Rattle.sd_plan.specs.topo.Network.{Network}
use Rattle.sd_plan.specs.domain.Domains.{domains}
use Rattle.sd_plan.specs.declared.domain.DomainId.{DomainId}
use Rattle.sd_plan.specs.declared.Plan.{Plan}
use Rattle.sd_drill.specs.Bounds.{AreBounds}
use Rattle.sd_drill.specs.declared.Budget.{Budget}
use Rattle.sd_search.specs.declared.rating.Rating.{Rating}

-- how many of these are missing
abbrev pub unbounded : List (Option ℕ) → ℕ
unbounded [] = 0
unbounded (None ∷ bounds) = unbounded bounds + 1
unbounded (Some bound ∷ bounds) = unbounded bounds

-- the greatest of these, and 0 where there is none
abbrev pub greatest : List (Option ℕ) → ℕ
greatest [] = 0
greatest (None ∷ bounds) = greatest bounds
greatest (Some bound ∷ bounds) = max bound (greatest bounds)

-- the bounds of all devices under one domain more
pub record Adds (net : Network) (plan : Plan) (budget : Budget) (f : DomainId) (before after : Rating) : Type 0 where
  pub bounds : List (Option ℕ)
  pub are : AreBounds net plan budget f bounds
  pub unbounded : after.unbounded ≡ before.unbounded + unbounded bounds
  pub greatest : after.greatest ≡ max before.greatest (greatest bounds)

-- the rating by the bounds of all devices under the first k domains
abbrev pub IsRatingUnder : Network → Plan → Budget → ℕ → Rating → Type 0
IsRatingUnder net plan budget zero rating = (rating.unbounded ≡ 0) × (rating.greatest ≡ 0)
IsRatingUnder net plan budget (suc k) rating =
    (f : DomainId) × (before : Rating) × (slice_get (domains net) k ≡ Some f) × IsRatingUnder net plan budget k before × Adds net plan budget f before rating

-- the rating by the bounds of all devices under all domains
abbrev pub IsRating : Network → Plan → Budget → Rating → Type 0
IsRating net plan budget rating = IsRatingUnder net plan budget (length (domains net)) rating

-- fewer bounds are missing, or as many, and the greatest is no greater
abbrev pub IsNoMore : Rating → Rating → Type 0
IsNoMore a b = (a.unbounded < b.unbounded) ⊎ ((a.unbounded ≡ b.unbounded) × (a.greatest ≤ b.greatest))

-- the rating of the plan is no more than that of the other
pub record IsNoWorse (net : Network) (budget : Budget) (other plan : Plan) : Type 0 where
  pub rating : Rating
  pub of_other : Rating
  pub is : IsRating net plan budget rating
  pub is_of_other : IsRating net other budget of_other
  pub no_more : IsNoMore rating of_other
