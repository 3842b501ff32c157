-- What a search from the acting end knows.
use Rattle.std.specs.Prelude.{◌≡◌, ℕ, ◌<◌, ◌≤◌, true, length, slice_get, Some}
use Rattle.sd_num.specs.Lists.{has}
use Rattle.sd_plan.specs.topo.Network.{Network}
use Rattle.sd_plan.specs.declared.domain.DomainId.{DomainId}
use Rattle.sd_plan.specs.declared.Plan.{Plan}
use Rattle.sd_checker.specs.check_reach.Reach.{acting_end}
use Rattle.sd_checker.specs.check_reach.Reached.{LeadsInto}
use Rattle.sd_checker.specs.declared.check_reach.home.Home.{Home}

-- it has begun with the acting end, and what lies around the first devices is in it
pub record IsHome (net : Network) (plan : Plan) (domain : DomainId) (home : Home) : Type 0 where
  pub within : (d : ℕ) → has home.joined.numbers d ≡ true → d < length net.devices
  pub done : home.done ≤ length home.joined.numbers
  pub begun : 0 < home.done → has home.joined.numbers (acting_end net plan domain) ≡ true
  pub closed : (i d : ℕ) → i < home.done → slice_get home.joined.numbers i ≡ Some d → LeadsInto net plan domain home.joined.numbers d

-- it has begun, and has looked around from all its devices
abbrev pub IsWhole : Home → Type 0
IsWhole home = (0 < home.done) × (length home.joined.numbers ≤ home.done)
