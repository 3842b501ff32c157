-- Which fault domains there are: the listed ones by number, and each device and link alone.
use Rattle.std.specs.Prelude.{◌<◌, List, ◌++◌, length, map}
use Rattle.sd_plan.specs.topo.Network.{Network, device_numbers, link_numbers}
use Rattle.sd_plan.specs.declared.domain.DomainId.{DomainId}
use Rattle.sd_plan.specs.declared.domain.DomainId.TheVariants as domain
use Rattle.sd_plan.specs.domain.Domains.{domains}

-- there is such a domain: its number is in range
abbrev pub IsDomain : Network → DomainId → Type 0
IsDomain net (domain.Listed k) = k < length net.domains
IsDomain net (domain.Device e) = e < length net.devices
IsDomain net (domain.Link m) = m < length net.links

-- the domains of one thing, in order: each device alone, each link alone
abbrev pub alone : Network → List DomainId
alone net = map domain.Device (device_numbers net) ++ map domain.Link (link_numbers net)
