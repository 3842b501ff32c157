-- The bounds of devices under the domains that spare them: each of these leaves a device the same bound.
use Rattle.std.specs.Prelude.{◌≡◌, ℕ, Bool, ◌&&◌, not, List, length, slice_index_or, Option, Some, None, IsTrue}
use Rattle.sd_plan.specs.topo.Network.{Network}
use Rattle.sd_plan.specs.domain.Domains.{holds_device}
use Rattle.sd_plan.specs.declared.domain.DomainId.{DomainId}
use Rattle.sd_plan.specs.declared.Plan.{Plan}
use Rattle.sd_plan.specs.Walks.{is_hit}
use Rattle.sd_drill.specs.Drill.{IsWorst}
use Rattle.sd_drill.specs.declared.Budget.{Budget}

-- the domain neither has the device nor hits it
abbrev pub is_spared : Network → Plan → DomainId → ℕ → Bool
is_spared net plan f d = not (is_hit net plan f d) && not (holds_device net f d)

-- what is known of a device's bound, if anything is: it is the bound under each domain that spares the device
abbrev pub IsSparedBound : Network → Plan → Budget → ℕ → Option ℕ → Type 0
IsSparedBound net plan budget d None = Unit {0}
IsSparedBound net plan budget d (Some w) = (f : DomainId) → IsTrue (is_spared net plan f d) → IsWorst net plan budget f d w

-- what is known of the bound of a device
abbrev pub spared_at : List (Option ℕ) → ℕ → Option ℕ
spared_at known d = slice_index_or known d None

-- there is an entry for each device, and what is known is right
pub record AreSparedBounds (net : Network) (plan : Plan) (budget : Budget) (known : List (Option ℕ)) : Type 0 where
  pub size : length known ≡ length net.devices
  pub each : (d : ℕ) → IsSparedBound net plan budget d (spared_at known d)
