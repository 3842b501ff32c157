-- Every set that is closed under the rules of being fed has each device that is fed, and every set that is closed under usable links each device that is
-- joined.
use Rattle.std.specs.Prelude.{◌≡◌, ℕ, ◌<◌, Bool, not, length, IsTrue, Some}
use Rattle.sd_plan.specs.topo.Network.{Network, joins}
use Rattle.sd_plan.specs.topo.Joined.{Joined, here, over}
use Rattle.sd_plan.specs.domain.Domains.{holds_device, holds_link}
use Rattle.sd_plan.specs.declared.domain.DomainId.{DomainId}
use Rattle.sd_plan.specs.declared.Hop.{Hop}
use Rattle.sd_plan.specs.declared.Plan.{Plan}
use Rattle.sd_plan.specs.Walks.{is_hit}
use Rattle.sd_checker.specs.check_reach.Reach.{Fed, acts, stands_by, spared, turns, is_sound, acting_end, next_hop}

-- the set is closed under the four rules
pub record IsClosed (net : Network) (plan : Plan) (domain : DomainId) (S : ℕ → Type 0) : Type 0 where
  pub has_acting : (d : ℕ) → IsTrue (is_sound net plan domain d) → d ≡ acting_end net plan domain → S d
  pub has_standby : (d : ℕ) → IsTrue (is_sound net plan domain d) → d ≡ plan.backup_root → S d
  pub has_spared : (d : ℕ) → IsTrue (is_sound net plan domain d) → IsTrue (not (is_hit net plan domain d)) → S d
  pub has_turned : (d : ℕ) (hop : Hop) → IsTrue (is_sound net plan domain d) → IsTrue (is_hit net plan domain d) → next_hop plan d ≡ Some hop
      → IsTrue (not (holds_link net domain hop.link)) → IsTrue (not (holds_device net domain hop.parent)) → S hop.parent → S d

pub fed_within : {net : Network} {plan : Plan} {domain : DomainId} {d : ℕ} (S : ℕ → Type 0) → IsClosed net plan domain S → Fed net plan domain d → S d
fed_within {d = d} S closed (acts sound equal) = closed.has_acting d sound equal
fed_within {d = d} S closed (stands_by sound equal) = closed.has_standby d sound equal
fed_within {d = d} S closed (spared sound free) = closed.has_spared d sound free
fed_within {d = d} S closed (turns hop sound hit next link parent fed) = closed.has_turned d hop sound hit next link parent (fed_within S closed fed)

-- what usable links lead to from a device in the set is in the set
abbrev pub IsClosedUnderLinks : Network → (ℕ → Bool) → (ℕ → Bool) → (ℕ → Type 0) → Type 0
IsClosedUnderLinks net may_pass may_cross S =
    (d e l : ℕ) → l < length net.links → IsTrue (may_cross l) → IsTrue (joins net l d e) → IsTrue (may_pass e) → S d → S e

pub joined_within_set : {net : Network} {may_pass may_cross : ℕ → Bool} {d x : ℕ} (S : ℕ → Type 0) → IsClosedUnderLinks net may_pass may_cross S
    → Joined net may_pass may_cross d x → S d → S x
joined_within_set S closed here inside = inside
joined_within_set {d = d} S closed (over {e = e} l in_range crosses joined passes rest) inside =
    joined_within_set S closed rest (closed d e l in_range crosses joined passes inside)
