-- Walks up the tree that placed devices make.
use Rattle.std.specs.Prelude.{ℕ, zero, suc, Bool, ◌||◌, List, [], ◌∷◌, length, Option, option_and_then}
use Rattle.std.specs.List.{list_any}
use Rattle.sd_num.specs.Lists.{map_or}
use Rattle.sd_plan.specs.declared.Hop.{Hop}
use Rattle.sd_plan.specs.Walks.{devices_of, links_of}
use Rattle.sd_planner.specs.declared.placement.Placed.{Placed}
use Rattle.sd_planner.specs.Spreading.{placed_at}

-- the hop of a placed device to its parent
abbrev pub hop_up : List Placed → ℕ → Option Hop
hop_up placed d = option_and_then (λ p. p.hop) (placed_at placed d)

-- the hops from a device on, n of them at most
unfoldable pub climb : List Placed → ℕ → ℕ → List Hop
climb placed zero d = []
climb placed (suc n) d = map_or (hop_up placed d) [] (λ hop. hop ∷ climb placed n hop.parent)

-- the walk of a device
unfoldable pub way_up : List Placed → ℕ → List Hop
way_up placed d = climb placed (length placed) d

-- the walk of a device has a device or a link that passes its test, the device itself counted
abbrev pub leads_over : (ℕ → Bool) → (ℕ → Bool) → List Placed → ℕ → Bool
leads_over device link placed d = list_any device (devices_of d (way_up placed d)) || list_any link (links_of (way_up placed d))
