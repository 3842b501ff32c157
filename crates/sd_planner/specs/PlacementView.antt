-- What the fields of a placement stand for.
use Rattle.std.specs.Prelude.{◌≡◌, ◌≤◌, ◌^◌, ◌-◌, ℕ, List, length, Option, Some, slice_get}
use Rattle.sd_planner.specs.declared.placement.Placed.{Placed}
use Rattle.sd_planner.specs.Placements.{Placements}
use Rattle.sd_planner.specs.declared.placement.Placement.TheInside.{Inside}

-- the placement that the fields stand for
abbrev pub placement_seen : Inside → Placements
placement_seen p = record { order = p.order.items; count = length p.places.items }

-- each device has the place where it stands in the order, and no other
pub record AreTied (order : List Placed) (places : List (Option ℕ)) : Type 0 where
  pub known : (i : ℕ) (placed : Placed) → slice_get order i ≡ Some placed → slice_get places placed.device ≡ Some (Some i)
  pub stands : (d i : ℕ) → slice_get places d ≡ Some (Some i) → (placed : Placed) × (slice_get order i ≡ Some placed) × (placed.device ≡ d)

-- the fields stand for a placement
pub record IsPlacement (p : Inside) : Type 0 where
  pub size : length p.places.items ≤ 2 ^ 32 - 1
  pub tied : AreTied p.order.items p.places.items
