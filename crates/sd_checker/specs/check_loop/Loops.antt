-- No loop of parents, whichever of the hit devices have moved to their backups.
use Rattle.std.specs.Prelude.{◌≢◌, ℕ, Bool, true, ◌&&◌, not, List, ◌∷◌, ◌++◌, nat_eq, IsTrue, option_to_list, if◌then◌else◌, []}
use Rattle.std.specs.List.{list_any}
use Rattle.sd_plan.specs.topo.Network.{Network}
use Rattle.sd_plan.specs.declared.domain.DomainId.{DomainId}
use Rattle.sd_plan.specs.declared.Hop.{Hop}
use Rattle.sd_plan.specs.declared.Plan.{Plan}
use Rattle.sd_plan.specs.Plans.{is_member, primary_of, backup_of}
use Rattle.sd_plan.specs.Walks.{ends_walks, is_hit, end_of}

-- the hops that a device may be on while things of the domain fail: its primary, and where the domain hits it its backup too
abbrev pub hops_of : Network → Plan → DomainId → ℕ → List Hop
hops_of net plan domain d =
    if is_member plan d && not (ends_walks plan d)
    then option_to_list (primary_of plan d) ++ (if is_hit net plan domain d then option_to_list (backup_of plan d) else [])
    else []

-- the hops have the same parent and the same link
abbrev pub same_hop : Hop → Hop → Bool
same_hop a b = nat_eq a.parent b.parent && nat_eq a.link b.link

-- the hops make a walk from d: each is one of those that the device may be on to which the one before it led
abbrev pub is_walk : Network → Plan → DomainId → ℕ → List Hop → Bool
is_walk net plan domain d [] = true
is_walk net plan domain d (hop ∷ hs) = list_any (same_hop hop) (hops_of net plan domain d) && is_walk net plan domain hop.parent hs

-- no walk of at least one hop leads from a device to itself
abbrev pub HasNoCycle : Network → Plan → DomainId → Type 0
HasNoCycle net plan domain = (d : ℕ) (hop : Hop) (hs : List Hop) → IsTrue (is_walk net plan domain d (hop ∷ hs)) → end_of hop.parent hs ≢ d
