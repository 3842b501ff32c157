-- What is shown of a plan that breaks the domain condition or the reach condition: the device, or the chain.
use Rattle.std.specs.Prelude.{ℕ, ◌<◌, Bool, true, false, ◌&&◌, not, List, ◌∷◌, nat_eq, IsTrue, []}
use Rattle.sd_num.specs.Lists.{has, map_or}
use Rattle.sd_plan.specs.topo.Network.{Network}
use Rattle.sd_plan.specs.domain.Domains.{holds_device, holds_link}
use Rattle.sd_plan.specs.declared.domain.DomainId.{DomainId}
use Rattle.sd_plan.specs.declared.Plan.{Plan}
use Rattle.sd_checker.specs.check_reach.Reach.{is_sound, CanReach, Fed, LosesBackup, next_hop}

-- a sound device that neither comes to hear the acting end nor is cut off from it
abbrev pub IsStarved : Network → Plan → DomainId → ℕ → Type 0
IsStarved net plan domain d = IsTrue (is_sound net plan domain d) × (¬ Fed net plan domain d) × CanReach net plan domain d

-- the next hop of d leads to e over what the domain leaves
abbrev pub turns_to : Network → Plan → DomainId → ℕ → ℕ → Bool
turns_to net plan domain d e =
    map_or (next_hop plan d) false (λ hop. nat_eq hop.parent e && not (holds_link net domain hop.link) && not (holds_device net domain hop.parent))

-- the chain goes on along next hops and ends before a hop over the domain, or to a device that is in the chain already
abbrev pub follows_turns : Network → Plan → DomainId → List ℕ → List ℕ → Bool
follows_turns net plan domain chain [] = true
follows_turns net plan domain chain (d ∷ []) =
    not (map_or (next_hop plan d) false (λ hop. turns_to net plan domain d hop.parent && not (has chain hop.parent)))
follows_turns net plan domain chain (d ∷ e ∷ es) = turns_to net plan domain d e && not (has es e) && follows_turns net plan domain chain (e ∷ es)

-- the list begins with the device, and has it nowhere else
abbrev pub begins_with : List ℕ → ℕ → Bool
begins_with [] d = false
begins_with (e ∷ es) d = nat_eq e d && not (has es d)

-- the chain that is shown: it begins at the least starved device and goes along next hops
pub record IsShownChain (net : Network) (plan : Plan) (domain : DomainId) (chain : List ℕ) : Type 0 where
  pub first : ℕ
  pub starved : IsStarved net plan domain first
  pub least : (d : ℕ) → d < first → ¬ IsStarved net plan domain d
  pub begins : IsTrue (begins_with chain first)
  pub goes_on : IsTrue (follows_turns net plan domain chain chain)

-- the least device that breaks the domain condition
abbrev pub ShowsDevice : Network → Plan → DomainId → ℕ → Type 0
ShowsDevice net plan domain d = LosesBackup net plan domain d × ((e : ℕ) → e < d → ¬ LosesBackup net plan domain e)
