-- Fault domains: sets of devices and links that may fail together.
use Rattle.std.specs.Prelude.{ℕ, Bool, false, List, ◌++◌, length, map, find, nat_eq, Option}
use Rattle.std.specs.List.{list_all, list_any}
use Rattle.sd_num.specs.Lists.{below, has, at_place}
use Rattle.sd_plan.specs.topo.Network.{Network, device_numbers, link_numbers}
use Rattle.sd_plan.specs.declared.topo.Thing.{Thing}
use Rattle.sd_plan.specs.declared.topo.Thing.TheVariants as thing
use Rattle.sd_plan.specs.declared.domain.DomainId.{DomainId}
use Rattle.sd_plan.specs.declared.domain.DomainId.TheVariants as domain

-- the domain has the device
abbrev pub holds_device : Network → DomainId → ℕ → Bool
holds_device net (domain.Listed k) d = at_place net.domains k false (λ listed. has listed.devices d)
holds_device net (domain.Device e) d = nat_eq e d
holds_device net (domain.Link l) d = false

-- the domain has the link
abbrev pub holds_link : Network → DomainId → ℕ → Bool
holds_link net (domain.Listed k) l = at_place net.domains k false (λ listed. has listed.links l)
holds_link net (domain.Device e) l = false
holds_link net (domain.Link m) l = nat_eq m l

-- the domain has the thing
abbrev pub holds : Network → DomainId → Thing → Bool
holds net f (thing.Device d) = holds_device net f d
holds net f (thing.Link l) = holds_link net f l

-- the listed domains, in their order
abbrev pub listed_domains : Network → List DomainId
listed_domains net = map domain.Listed (below (length net.domains))

-- all domains, in order: the listed ones, each device alone, each link alone
abbrev pub domains : Network → List DomainId
domains net = map domain.Listed (below (length net.domains)) ++ map domain.Device (device_numbers net) ++ map domain.Link (link_numbers net)

-- the domain has one of the things: it hits the path that they make
abbrev pub hits : Network → DomainId → List Thing → Bool
hits net f things = list_any (holds net f) things

-- the first domain that has all the things, which are meant as a set
abbrev pub within_one : Network → List Thing → Option DomainId
within_one net things = find (λ f. list_all (holds net f) things) (domains net)
