-- Ratings, a bound and a domain at a time.
use Rattle.std.proofs.Common.{◌≡◌, ℕ, suc, ◌+◌, ◌<◌, ◌≤◌, List, [], ◌∷◌, ◌++◌, length, take, get_or, slice_get, max, Option, Some, None, sym, ap, ◌∙◌, subst, arith}
use Rattle.std.proofs.lemmas.List.{take_more}
use Rattle.sd_plan.specs.topo.Network.{Network}
use Rattle.sd_plan.specs.topo.Limits.{IsNetwork}
use Rattle.sd_plan.specs.domain.Domains.{domains}
use Rattle.sd_plan.specs.declared.domain.DomainId.{DomainId}
use Rattle.sd_plan.specs.declared.Plan.{Plan}
use Rattle.sd_drill.specs.declared.Budget.{Budget}
use Rattle.sd_search.specs.Ratings.{unbounded, greatest, Adds, IsRatingUnder}
use Rattle.sd_search.specs.declared.rating.Rating.{Rating}

-- one bound more
unbounded_push : (x : Option ℕ) (xs : List (Option ℕ)) → unbounded (xs ++ x ∷ []) ≡ unbounded xs + unbounded (x ∷ [])
unbounded_push x [] = omega arith
unbounded_push x (None ∷ xs) = omega (arith, unbounded_push x xs)
unbounded_push x (Some bound ∷ xs) = unbounded_push x xs

greatest_push : (x : Option ℕ) (xs : List (Option ℕ)) → greatest (xs ++ x ∷ []) ≡ max (greatest xs) (greatest (x ∷ []))
greatest_push x [] = omega arith
greatest_push x (None ∷ xs) = greatest_push x xs
greatest_push x (Some bound ∷ xs) = ap (max bound) (greatest_push x xs) ∙ omega arith

pub unbounded_more : (xs : List (Option ℕ)) (i : ℕ) → i < length xs → unbounded (take (i + 1) xs) ≡ unbounded (take i xs) + unbounded (get_or xs i None ∷ [])
unbounded_more xs i within = ap unbounded (take_more xs i None within) ∙ unbounded_push (get_or xs i None) (take i xs)

pub greatest_more : (xs : List (Option ℕ)) (i : ℕ) → i < length xs → greatest (take (i + 1) xs) ≡ max (greatest (take i xs)) (greatest (get_or xs i None ∷ []))
greatest_more xs i within = ap greatest (take_more xs i None within) ∙ greatest_push (get_or xs i None) (take i xs)

-- no more bounds are missing than there are entries
pub unbounded_most : (xs : List (Option ℕ)) → unbounded xs ≤ length xs
unbounded_most [] = omega arith
unbounded_most (None ∷ xs) = omega (arith, unbounded_most xs)
unbounded_most (Some bound ∷ xs) = omega (arith, unbounded_most xs)

-- one domain more
pub rated_more : (net : Network) (plan : Plan) (budget : Budget) (k : ℕ) (f : DomainId) (before after : Rating) → slice_get (domains net) k ≡ Some f
    → IsRatingUnder net plan budget k before → Adds net plan budget f before after → IsRatingUnder net plan budget (k + 1) after
rated_more net plan budget k f before after at under adds =
    let on : k + 1 ≡ suc k = omega arith in
    subst (λ (n : ℕ). IsRatingUnder net plan budget n after) (sym on) (f, before, at, under, adds)

pub missing_more : (net : Network) (plan : Plan) (budget : Budget) (f : DomainId) (before after : Rating) → IsNetwork net → Adds net plan budget f before after
    → after.unbounded ≤ before.unbounded + 4096
missing_more net plan budget f before after law adds = omega (arith, adds.unbounded, unbounded_most adds.bounds, adds.are.each, law.devices.1)
