-- Whether a hop leads a device that is hit back to what is fed.
use Rattle.std.specs.Prelude.{IsTrue, not, Option, Some, None}
use Rattle.sd_plan.specs.topo.Network.{Network}
use Rattle.sd_plan.specs.domain.Domains.{holds_device, holds_link}
use Rattle.sd_plan.specs.declared.domain.DomainId.{DomainId}
use Rattle.sd_plan.specs.declared.Hop.{Hop}
use Rattle.sd_plan.specs.declared.Plan.{Plan}
use Rattle.sd_checker.specs.check_reach.Reach.{Fed}

-- the domain leaves the hop, and it leads to a device that is fed
abbrev pub IsFedOver : Network → Plan → DomainId → Option Hop → Type 0
IsFedOver net plan f None = ⊥
IsFedOver net plan f (Some hop) = IsTrue (not (holds_link net f hop.link)) × IsTrue (not (holds_device net f hop.parent)) × Fed net plan f hop.parent
