-- Trees by lists of children: who lies below whom, and where they stand in an order.
use Rattle.std.specs.Prelude.{◌≡◌, ℕ, zero, suc, ◌<◌, ◌≤◌, Bool, true, false, List, [], ◌∷◌, ◌++◌, length, filter, flat_map, nat_eq, slice_index_or, slice_range, All, IfSome, if◌then◌else◌}
use Rattle.sd_num.specs.Lists.{below, has, map_or}
use Rattle.sd_plan.specs.topo.Network.{Network}
use Rattle.sd_plan.specs.Plans.{primary_of}
use Rattle.sd_plan.specs.IndexedPlan.{no_span}
use Rattle.sd_plan.specs.declared.Plan.{Plan}
use Rattle.sd_plan.specs.declared.index.Span.{Span}

-- d is the primary parent of c
abbrev pub is_child : Plan → ℕ → ℕ → Bool
is_child plan d c = map_or (primary_of plan c) false (λ hop. nat_eq hop.parent d)

-- the devices below a number whose primary parent is d, ascending
abbrev pub children_before : Plan → ℕ → ℕ → List ℕ
children_before plan n d = filter (is_child plan d) (below n)

-- the devices whose primary parent is d, ascending
abbrev pub children : Network → Plan → ℕ → List ℕ
children net plan d = children_before plan (length net.devices) d

-- its primary parent, if it has one, is less than the bound
abbrev pub HasParentBelow : ℕ → Plan → ℕ → Type 0
HasParentBelow bound plan c = IfSome (primary_of plan c) (λ hop. hop.parent < bound)

-- c, if it follows d
abbrev pub child_below : Plan → ℕ → ℕ → List ℕ
child_below plan c d = if is_child plan d c then c ∷ [] else []

-- the children of d in lists of them
abbrev pub listed : List (List ℕ) → ℕ → List ℕ
listed lists d = slice_index_or lists d []

-- d and those at most n below it, each before those below it
unfoldable pub subtree : List (List ℕ) → ℕ → ℕ → List ℕ
subtree lists zero d = d ∷ []
subtree lists (suc n) d = d ∷ flat_map (subtree lists n) (listed lists d)

-- nothing lies more than n below d, and all that lies below it has a list
unfoldable pub IsWithin : List (List ℕ) → ℕ → ℕ → Type 0
IsWithin lists zero d = (d < length lists) × (listed lists d ≡ [])
IsWithin lists (suc n) d = (d < length lists) × All (IsWithin lists n) (listed lists d)

-- where a and those below it stand
pub record IsSpan (lists : List (List ℕ)) (order : List ℕ) (a : ℕ) (span : Span) : Type 0 where
  pub rising : span.from ≤ span.to
  pub within : span.to ≤ length order
  pub are : (n : ℕ) → IsWithin lists n a → slice_range order span.from span.to ≡ subtree lists n a

-- some devices were added to an order; each of them got its span, and no other device
pub record ArePlaced (lists : List (List ℕ)) (added before after : List ℕ) (old new : List Span) : Type 0 where
  pub order : after ≡ before ++ added
  pub size : length new ≡ length old
  pub placed : (a : ℕ) → has added a ≡ true → IsSpan lists after a (slice_index_or new a no_span)
  pub others : (a : ℕ) → has added a ≡ false → slice_index_or new a no_span ≡ slice_index_or old a no_span
