-- What the walks of a device reach while things of a domain fail: the greatest sum of halves, and the greatest number of hops.
use Rattle.std.specs.Prelude.{◌≡◌, ℕ, ◌+◌, ◌≤◌, List, [], ◌∷◌, IsTrue}
use Rattle.sd_plan.specs.topo.Network.{Network, bounds_of}
use Rattle.sd_plan.specs.declared.domain.DomainId.{DomainId}
use Rattle.sd_plan.specs.declared.Hop.{Hop}
use Rattle.sd_plan.specs.declared.Plan.{Plan}
use Rattle.sd_checker.specs.check_loop.Loops.{is_walk}

-- the sum of the halves along hops from d: each in the direction towards the device that has the hop
abbrev pub halves : Network → ℕ → List Hop → ℕ
halves net d [] = 0
halves net d (hop ∷ hs) = (bounds_of net hop.link d).half + halves net hop.parent hs

-- a walk from d on which devices may be while things of the domain fail
abbrev pub IsWalk : Network → Plan → DomainId → ℕ → List Hop → Type 0
IsWalk net plan f d hops = IsTrue (is_walk net plan f d hops)

-- g is the greatest that measure is of the lists of hops with the property
pub record IsGreatestOf (Has : List Hop → Type 0) (measure : List Hop → ℕ) (g : ℕ) : Type 0 where
  pub hops : List Hop
  pub has : Has hops
  pub reached : measure hops ≡ g
  pub greatest : (others : List Hop) → Has others → measure others ≤ g

-- g is the greatest that measure is of the walks from d
abbrev pub IsGreatestOfWalks : Network → Plan → DomainId → ℕ → (List Hop → ℕ) → ℕ → Type 0
IsGreatestOfWalks net plan f d = IsGreatestOf (IsWalk net plan f d)
