-- The hit devices as a graph: each has a place in their list, and leads to the places of its parents.
use Rattle.std.specs.Prelude.{ℕ, suc, ◌<◌, Bool, ◌||◌, List, [], ◌∷◌, length, map, nat_eq, slice_index_or, Option, Some, None, IfSome, option_map, if◌then◌else◌}
use Rattle.sd_num.specs.Lists.{same_number}
use Rattle.sd_plan.specs.Plans.{primary_of, backup_of}
use Rattle.sd_plan.specs.Walks.{ends_walks}
use Rattle.sd_plan.specs.declared.Hop.{Hop}
use Rattle.sd_plan.specs.declared.Plan.{Plan}
use Rattle.sd_checker.specs.declared.check_loop.graph.Successors.{Successors}

-- the first place of a number in a list
abbrev pub place_in : List ℕ → ℕ → Option ℕ
place_in [] x = None
place_in (y ∷ ys) x = if nat_eq y x then Some 0 else option_map (λ i. suc i) (place_in ys x)

-- the place of the parent
abbrev pub parent_place : List ℕ → Option Hop → Option ℕ
parent_place hit None = None
parent_place hit (Some hop) = place_in hit hop.parent

-- nothing follows
abbrev pub no_successors : Successors
no_successors = record { primary = None; backup = None }

-- the places of the parents of a device that ends no walk
unfoldable pub successors_of : Plan → List ℕ → ℕ → Successors
successors_of plan hit d =
    if ends_walks plan d then no_successors
    else record { primary = parent_place hit (primary_of plan d); backup = parent_place hit (backup_of plan d) }

-- the successors of each of the devices
abbrev pub graph_of : Plan → List ℕ → List Successors
graph_of plan hit = map (successors_of plan hit) hit

-- the successors of a place, none of one that is not there
abbrev pub successors_at : List Successors → ℕ → Successors
successors_at graph i = slice_index_or graph i no_successors

-- one place leads directly to another
abbrev pub leads : List Successors → ℕ → ℕ → Bool
leads graph i j = same_number (successors_at graph i).primary j || same_number (successors_at graph i).backup j

-- both successors, where they are there, have the property
abbrev pub BothAre : (ℕ → Type 0) → Successors → Type 0
BothAre P s = IfSome s.primary P × IfSome s.backup P

-- all successors are places of the graph
abbrev pub IsGraph : List Successors → Type 0
IsGraph graph = (i : ℕ) → i < length graph → BothAre (λ j. j < length graph) (successors_at graph i)
