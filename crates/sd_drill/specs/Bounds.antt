-- The bounds of all devices.
use Rattle.std.specs.Prelude.{◌≡◌, ℕ, ◌<◌, List, length, Option, None}
use Rattle.sd_num.specs.Lists.{at_place}
use Rattle.sd_plan.specs.topo.Network.{Network}
use Rattle.sd_plan.specs.declared.domain.DomainId.{DomainId}
use Rattle.sd_plan.specs.declared.Plan.{Plan}
use Rattle.sd_drill.specs.Drill.{IsListed}
use Rattle.sd_drill.specs.declared.Budget.{Budget}

-- the bound of a device, if it has one
abbrev pub bound_at : List (Option ℕ) → ℕ → Option ℕ
bound_at bounds d = at_place bounds d None (λ bound. bound)

-- what is listed for each device of the network when things of the domain fail
pub record AreBounds (net : Network) (plan : Plan) (budget : Budget) (f : DomainId) (bounds : List (Option ℕ)) : Type 0 where
  pub each : length bounds ≡ length net.devices
  pub listed : (d : ℕ) → d < length net.devices → IsListed net plan budget f d (bound_at bounds d)
