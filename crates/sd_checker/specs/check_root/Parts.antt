-- The devices and the links of a domain, as lists.
use Rattle.std.specs.Prelude.{ℕ, List, [], ◌∷◌}
use Rattle.sd_plan.specs.topo.Network.{Network}
use Rattle.sd_plan.specs.topo.Places.{domain_of}
use Rattle.sd_plan.specs.declared.domain.DomainId.{DomainId}
use Rattle.sd_plan.specs.declared.domain.DomainId.TheVariants as domain

-- its devices, ascending
abbrev pub devices_in : Network → DomainId → List ℕ
devices_in net (domain.Listed k) = (domain_of net k).devices
devices_in net (domain.Device d) = d ∷ []
devices_in net (domain.Link l) = []

-- its links, ascending
abbrev pub links_in : Network → DomainId → List ℕ
links_in net (domain.Listed k) = (domain_of net k).links
links_in net (domain.Device d) = []
links_in net (domain.Link l) = l ∷ []
