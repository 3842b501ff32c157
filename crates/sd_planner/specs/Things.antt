-- Flags on devices and links, and what shares a domain with a walk.
use Rattle.std.specs.Prelude.{◌≡◌, ℕ, Bool, false, ◌&&◌, ◌||◌, not, List, length, map, nat_eq, replicate, Some}
use Rattle.std.specs.List.{list_any}
use Rattle.sd_num.specs.Lists.{below, has}
use Rattle.sd_plan.specs.topo.Network.{Network}
use Rattle.sd_plan.specs.topo.Places.{domain_of}
use Rattle.sd_plan.specs.domain.Domains.{domains, holds_device, holds_link, hits}
use Rattle.sd_plan.specs.Walks.{things_of, devices_of, links_of}
use Rattle.sd_plan.specs.declared.Hop.{Hop}
use Rattle.sd_planner.specs.declared.placement.Placed.{Placed}
use Rattle.sd_planner.specs.Spreading.{placed_at}
use Rattle.sd_planner.specs.Climbs.{way_up}
use Rattle.sd_planner.specs.Flags.{is_set}
use Rattle.sd_planner.specs.declared.backups.things.Things.{Things}

-- the devices that hops lead to
abbrev pub parents_of : List Hop → List ℕ
parents_of hops = map (λ hop. hop.parent) hops

-- there is a flag for each device and each link
pub record AreSized (net : Network) (things : Things) : Type 0 where
  pub devices : length things.devices.items ≡ length net.devices
  pub links : length things.links.items ≡ length net.links

-- none is set
pub record AreNone (net : Network) (things : Things) : Type 0 where
  pub devices : things.devices.items ≡ replicate (length net.devices) false
  pub links : things.links.items ≡ replicate (length net.links) false

-- the flags of some devices and links were set, and no other
pub record AddsAll (devices links : ℕ → Bool) (old new : Things) : Type 0 where
  pub device_size : length new.devices.items ≡ length old.devices.items
  pub link_size : length new.links.items ≡ length old.links.items
  pub device : (x : ℕ) → is_set new.devices.items x ≡ (is_set old.devices.items x || devices x)
  pub link : (x : ℕ) → is_set new.links.items x ≡ (is_set old.links.items x || links x)

-- a listed domain has something flagged
abbrev pub meets : Network → Things → ℕ → Bool
meets net things k = list_any (is_set things.devices.items) (domain_of net k).devices || list_any (is_set things.links.items) (domain_of net k).links

-- the device or the link is in one of the first listed domains that have something flagged
abbrev pub met_device : Network → Things → ℕ → ℕ → Bool
met_device net things n x = list_any (λ k. meets net things k && has (domain_of net k).devices x) (below n)

-- the link is in one of the first listed domains that have something flagged
abbrev pub met_link : Network → Things → ℕ → ℕ → Bool
met_link net things n x = list_any (λ k. meets net things k && has (domain_of net k).links x) (below n)

-- the device or the link shares a domain with hops
abbrev pub shares_device : Network → List Hop → ℕ → Bool
shares_device net hops x = list_any (λ domain. hits net domain (things_of hops) && holds_device net domain x) (domains net)

-- the link shares a domain with hops
abbrev pub shares_link : Network → List Hop → ℕ → Bool
shares_link net hops x = list_any (λ domain. hits net domain (things_of hops) && holds_link net domain x) (domains net)

-- just what shares a domain with hops is flagged
pub record AreNear (net : Network) (hops : List Hop) (things : Things) : Type 0 where
  pub sized : AreSized net things
  pub device : (x : ℕ) → is_set things.devices.items x ≡ shares_device net hops x
  pub link : (x : ℕ) → is_set things.links.items x ≡ shares_link net hops x

-- the links are flagged that share a domain with hops, and the placed devices whose walks have something that does, the root apart
pub record AreUnfit (net : Network) (root : ℕ) (order : List Placed) (hops : List Hop) (things : Things) : Type 0 where
  pub device : (d : ℕ) (p : Placed) → placed_at order d ≡ Some p → is_set things.devices.items d
      ≡ (list_any (λ x. not (nat_eq x root) && shares_device net hops x) (devices_of d (way_up order d))
      || list_any (shares_link net hops) (links_of (way_up order d)))
  pub link : (x : ℕ) → is_set things.links.items x ≡ shares_link net hops x
