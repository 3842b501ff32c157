-- The three kinds of domains, in their order.
use Rattle.std.specs.Prelude.{ℕ, List, length, map}
use Rattle.sd_num.specs.Lists.{below}
use Rattle.sd_plan.specs.topo.Network.{Network}
use Rattle.sd_plan.specs.declared.domain.DomainId.{DomainId}
use Rattle.sd_plan.specs.declared.domain.DomainId.TheVariants as domain
use Rattle.sd_drill_text.specs.declared.kinds.Kind.{Kind}
use Rattle.sd_drill_text.specs.declared.kinds.Kind.TheVariants as kind

-- how many domains of a kind there are
abbrev pub count_of : Network → Kind → ℕ
count_of net kind.Listed = length net.domains
count_of net kind.Device = length net.devices
count_of net kind.Link = length net.links

-- the domain of a kind with this number
abbrev pub domain_at : Kind → ℕ → DomainId
domain_at kind.Listed number = domain.Listed number
domain_at kind.Device number = domain.Device number
domain_at kind.Link number = domain.Link number

-- the first domains of a kind
abbrev pub first_of : Kind → ℕ → List DomainId
first_of k n = map (domain_at k) (below n)

-- all domains of a kind
abbrev pub all_of : Network → Kind → List DomainId
all_of net k = first_of k (count_of net k)
