-- The theorem on the number of a drill.
use Rattle.std.specs.Prelude.{ℕ}
use Rattle.sd_plan.specs.topo.Limits.{IsNetwork}
use Rattle.sd_plan.specs.declared.domain.DomainId.{DomainId}
use Rattle.sd_plan.specs.declared.Plan.{Plan}
use Rattle.sd_plan.specs.Plans.{Fits}
use Rattle.sd_plan.specs.topo.Network.{Network}
use Rattle.sd_checker.specs.Conditions.{IsAccepted}
use Rattle.sd_drill.specs.Drill.{IsWorst}
use Rattle.sd_drill.specs.declared.Budget.{Budget}
use Rattle.sd_bound.specs.Bound.{StaysBelow}

-- the bound of each device, of an accepted plan, is one that its reports stay below
abbrev pub BoundHolds : Network → Plan → Budget → DomainId → Type 0
BoundHolds net plan budget f =
    IsNetwork net → Fits net plan → IsAccepted net plan → (d w : ℕ) → IsWorst net plan budget f d w → StaysBelow net plan budget f d w
