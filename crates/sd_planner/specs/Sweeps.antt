-- Spreading as its queue is worked off: one placed device after another has its neighbours placed.
use Rattle.std.specs.Prelude.{◌≡◌, ℕ, ◌+◌, ◌≤◌, ◌^◌, Bool, false, ◌&&◌, not, List, [], ◌∷◌, ◌++◌, length, Some, slice_get, slice_index_or, if◌then◌else◌}
use Rattle.sd_planner.specs.declared.present.Neighbour.{Neighbour}
use Rattle.sd_planner.specs.declared.placement.Placed.{Placed}
use Rattle.sd_planner.specs.Spreading.{is_placed}

-- a neighbour of the parent, placed below it
abbrev pub child : ℕ → ℕ → Neighbour → Placed
child parent depth neighbour = record { device = neighbour.device; depth = depth + 1; hop = Some (record { parent = parent; link = neighbour.link }) }

-- the device may be passed, and has not been placed
abbrev pub is_new : List Bool → List Placed → ℕ → Bool
is_new may_pass order d = slice_index_or may_pass d false && not (is_placed order d)

-- which neighbours of the parent are placed after those of the order: the first link to each new device counts
abbrev pub children : List Bool → ℕ → ℕ → List Placed → List Neighbour → List Placed
children may_pass parent depth order [] = []
children may_pass parent depth order (neighbour ∷ neighbours) =
    if is_new may_pass order neighbour.device
    then child parent depth neighbour ∷ children may_pass parent depth (order ++ child parent depth neighbour ∷ []) neighbours
    else children may_pass parent depth order neighbours

-- working off what waits gives the final order, where near gives the neighbours of each device
pub data Sweeps (may_pass : List Bool) (near : ℕ → List Neighbour) : List Placed → List Placed → List Placed → Type 0 where
  done : {order : List Placed} → Sweeps may_pass near [] order order
  turn : {p : Placed} {waiting order final : List Placed}
      → Sweeps may_pass near (waiting ++ children may_pass p.device p.depth order (near p.device))
      (order ++ children may_pass p.device p.depth order (near p.device)) final
      → Sweeps may_pass near (p ∷ waiting) order final

-- from a place on none lies deeper than a number of devices more than the greatest depth of a source
abbrev pub IsShallow : ℕ → List Placed → Type 0
IsShallow first order = (i : ℕ) (p : Placed) → first ≤ i → slice_get order i ≡ Some p → p.depth ≤ 2 ^ 16 + length order
