-- Lemmas that several crates above share.
use Rattle.std.proofs.Common.{◌≡◌, ℕ, ◌||◌, List, [], ◌∷◌, map, nat_eq, refl, ap, ◌∙◌}
use Rattle.sd_num.specs.Lists.{has}
use Rattle.sd_num.proofs.Shared.{equal_swap}
use Rattle.sd_plan.specs.IndexedPlan.{has_device}
use Rattle.sd_plan.specs.Walks.{things_of}
use Rattle.sd_plan.specs.declared.Hop.{Hop}

-- the devices of hops
pub has_parents : (hs : List Hop) (a : ℕ) → has_device (things_of hs) a ≡ has (map (λ hop. hop.parent) hs) a
has_parents [] a = refl
has_parents (h ∷ hs) a = ap (λ t. t || has_device (things_of hs) a) (equal_swap h.parent a) ∙ ap (λ t. nat_eq a h.parent || t) (has_parents hs a)
