-- How far lists of hops from a device reach, or that one of them is longer than a walk may be.
use Rattle.std.specs.Prelude.{ℕ, ◌+◌, ◌*◌, ◌^◌, ◌<◌, ◌≤◌, List, [], ◌∷◌, length, max, IsTrue, option_to_list, Option, Some, None}
use Rattle.std.specs.List.{list_any}
use Rattle.sd_plan.specs.topo.Network.{Network}
use Rattle.sd_plan.specs.declared.domain.DomainId.{DomainId}
use Rattle.sd_plan.specs.declared.Hop.{Hop}
use Rattle.sd_plan.specs.declared.Plan.{Plan}
use Rattle.sd_checker.specs.check_loop.Loops.{same_hop}
use Rattle.sd_drill.specs.recovery.Walks.{halves, IsGreatestOf, IsWalk}
use Rattle.sd_drill.specs.declared.recovery.reach.Reach.{Reach}

-- the greatest sum of halves and the greatest number of hops of the lists, none of which has more than the depth and one; no hop has a half of more than 10^12
pub record IsReachOf (net : Network) (Has : List Hop → Type 0) (d : ℕ) (reach : Reach) : Type 0 where
  pub far : IsGreatestOf Has (halves net d) reach.far
  pub long : IsGreatestOf Has length reach.long
  pub within : reach.long ≤ net.params.depth + 1
  pub bound : reach.far ≤ reach.long * 10 ^ 12

-- one of the lists has more hops than the depth and one
pub record IsOverlong (net : Network) (Has : List Hop → Type 0) : Type 0 where
  pub hops : List Hop
  pub has : Has hops
  pub more : net.params.depth + 1 < length hops

-- what the walks reach, where none of them is too long
abbrev pub ReachesOf : Network → (List Hop → Type 0) → ℕ → Option Reach → Type 0
ReachesOf net Has d None = IsOverlong net Has
ReachesOf net Has d (Some reach) = IsReachOf net Has d reach

-- what the walks from d reach
abbrev pub ReachesFrom : Network → Plan → DomainId → ℕ → Option Reach → Type 0
ReachesFrom net plan f d = ReachesOf net (IsWalk net plan f d) d

-- a walk that begins with this hop, or has none
abbrev pub BeginsWith : Network → Plan → DomainId → Option Hop → List Hop → Type 0
BeginsWith net plan f first [] = Unit {0}
BeginsWith net plan f first (h ∷ hs) = IsTrue (list_any (same_hop h) (option_to_list first)) × IsWalk net plan f h.parent hs

-- the greater of both, where none is too long
abbrev pub farther : Option Reach → Option Reach → Option Reach
farther None b = None
farther (Some a) None = None
farther (Some a) (Some b) = Some (record { far = max a.far b.far; long = max a.long b.long })
