-- Chains of next hops as they are made, from their beginning on.
use Rattle.std.specs.Prelude.{◌≡◌, ℕ, Bool, true, ◌&&◌, not, List, [], ◌∷◌, Option, Some, None, IsTrue, if◌then◌else◌}
use Rattle.sd_num.specs.Lists.{has, map_or}
use Rattle.sd_plan.specs.topo.Network.{Network}
use Rattle.sd_plan.specs.declared.domain.DomainId.{DomainId}
use Rattle.sd_plan.specs.declared.Plan.{Plan}
use Rattle.sd_checker.specs.check_reach.Reach.{next_hop}
use Rattle.sd_checker.specs.check_reach.ShownChains.{turns_to, begins_with, follows_turns}
use Rattle.sd_checker.specs.check_reach.Reached.{is_left}

-- where the next hop of the device leads, if the domain leaves it
abbrev pub onward : Network → Plan → DomainId → ℕ → Option ℕ
onward net plan domain d = map_or (next_hop plan d) None (λ hop. if is_left net domain hop.link hop.parent then Some hop.parent else None)

-- each element turns to the next, and none comes twice
abbrev pub turns_along : Network → Plan → DomainId → List ℕ → Bool
turns_along net plan domain [] = true
turns_along net plan domain (d ∷ []) = true
turns_along net plan domain (d ∷ e ∷ es) = turns_to net plan domain d e && not (has es e) && turns_along net plan domain (e ∷ es)

-- the last element
abbrev pub ends_with : List ℕ → ℕ → Type 0
ends_with [] d = ⊥
ends_with (e ∷ []) d = e ≡ d
ends_with (e ∷ x ∷ xs) d = ends_with (x ∷ xs) d

-- a chain from the first device to the last one, so far
pub record IsChainTo (net : Network) (plan : Plan) (domain : DomainId) (first last : ℕ) (chain : List ℕ) : Type 0 where
  pub begins : begins_with chain first ≡ true
  pub along : turns_along net plan domain chain ≡ true
  pub ends : ends_with chain last

-- the chain to be shown of a device
pub record IsChainOf (net : Network) (plan : Plan) (domain : DomainId) (first : ℕ) (chain : List ℕ) : Type 0 where
  pub begins : IsTrue (begins_with chain first)
  pub goes_on : IsTrue (follows_turns net plan domain chain chain)
