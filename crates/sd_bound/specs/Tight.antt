-- No report is above the tighter number of a drill, and it is never above the number of the drill.
use Rattle.std.specs.Prelude.{ℕ, ◌≤◌}
use Rattle.sd_plan.specs.topo.Network.{Network}
use Rattle.sd_plan.specs.declared.domain.DomainId.{DomainId}
use Rattle.sd_plan.specs.declared.Plan.{Plan}
use Rattle.sd_drill.specs.declared.Budget.{Budget}
use Rattle.sd_drill.specs.Drill.{IsWorst}
use Rattle.sd_drill.specs.Tight.{IsTight}
use Rattle.sd_bound.specs.Steady.{AlwaysBelow}

-- no report of a live device is above its tight number
abbrev pub TightHolds : Network → Plan → Budget → DomainId → Type 0
TightHolds net plan budget f = (d w : ℕ) → IsTight net plan budget f d w → AlwaysBelow net plan budget f d w

-- and it is at most the number of the drill
abbrev pub TightIsLess : Network → Plan → Budget → DomainId → Type 0
TightIsLess net plan budget f = (d w tight : ℕ) → IsWorst net plan budget f d w → IsTight net plan budget f d tight → tight ≤ w
