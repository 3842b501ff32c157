-- What has been placed of some devices.
use Rattle.std.specs.Prelude.{ℕ, List}
use Rattle.sd_planner.specs.declared.placement.Placed.{Placed}

-- the placed devices in their order, and how many devices there are
pub record Placements : Type 0 where
  pub order : List Placed
  pub count : ℕ
