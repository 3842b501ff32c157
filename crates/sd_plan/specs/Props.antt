-- Facts with at most one proof, so that a struct can carry them.
use Rattle.std.specs.Prelude.{Option, Some, None}
use mathlib.Core.HLevel.{Π_prop, ×_prop, Unit-prop}
use native.Mathlib.Bridge.{le_prop}
use Rattle.sd_plan.specs.topo.Network.{Network}
use Rattle.sd_plan.specs.declared.Hop.{Hop}
use Rattle.sd_plan.specs.declared.PlanRow.{PlanRow}
use Rattle.sd_plan.specs.Plans.{IsHop, IsRow}

-- that a hop is one of a network has at most one proof
pub IsHop-prop : (net : Network) (hop : Hop) → IsProp (IsHop net hop)
IsHop-prop net hop = ×_prop le_prop le_prop

-- that a row is one of a network has at most one proof
pub IsRow-prop : (net : Network) (row : Option PlanRow) → IsProp (IsRow net row)
IsRow-prop net None = Unit-prop
IsRow-prop net (Some row) = ×_prop (IsHop-prop net row.primary) (Π_prop (λ hop. Π_prop (λ is. IsHop-prop net hop)))
