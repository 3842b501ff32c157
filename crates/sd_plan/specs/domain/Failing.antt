-- Failures of a whole domain, and that there is such a domain has one proof at most.
use Rattle.std.specs.Prelude.{◌≡◌, ℕ, length}
use Rattle.std.specs.FinSet as set
use native.Mathlib.Bridge.{le_prop}
use Rattle.sd_plan.specs.topo.Network.{Network}
use Rattle.sd_plan.specs.domain.Domains.{holds_device, holds_link}
use Rattle.sd_plan.specs.domain.Lone.{IsDomain}
use Rattle.sd_plan.specs.domain.Failures.{FailedThings}
use Rattle.sd_plan.specs.declared.domain.DomainId.{DomainId}
use Rattle.sd_plan.specs.declared.domain.DomainId.TheVariants as domain

-- there is room for each thing of the network
pub record HasRoomFor (net : Network) (failed : FailedThings) : Type 0 where
  pub devices : failed.device_room ≡ length net.devices
  pub links : failed.link_room ≡ length net.links

-- just the things of the domain have failed
pub record IsFailureOf (net : Network) (f : DomainId) (failed : FailedThings) : Type 0 where
  pub devices : (d : ℕ) → set.contains failed.devices d ≡ holds_device net f d
  pub links : (l : ℕ) → set.contains failed.links l ≡ holds_link net f l

-- that a network has a domain has at most one proof
pub IsDomain-prop : (net : Network) (f : DomainId) → IsProp (IsDomain net f)
IsDomain-prop net (domain.Listed k) = le_prop
IsDomain-prop net (domain.Device e) = le_prop
IsDomain-prop net (domain.Link m) = le_prop
