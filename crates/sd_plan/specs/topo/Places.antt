-- What stands at a number of a topology, beside what the promise needs: sides, domains, and which devices a link joins.
use Rattle.std.specs.Prelude.{ℕ, Bool, List, map, nat_eq, [], ◌||◌}
use Rattle.sd_num.specs.Lists.{at_place}
use Rattle.sd_plan.specs.declared.topo.Side.{Side}
use Rattle.sd_plan.specs.declared.topo.Side.TheVariants.{Root}
use Rattle.sd_plan.specs.declared.topo.LinkEntry.{LinkEntry}
use Rattle.sd_plan.specs.topo.Network.{Device, Link, Domain, Network, no_rates, no_link}

-- what stands where there is no device
abbrev pub no_device : Device
no_device = record { name = []; side = Root; rates = no_rates }

-- what stands where there is no link
abbrev pub no_named_link : Link
no_named_link = record { name = []; entry = no_link }

-- what stands where there is no listed domain
abbrev pub no_domain : Domain
no_domain = record { name = []; devices = []; links = [] }

-- the names of the listed domains, by number
abbrev pub domain_names : Network → List (List ℕ)
domain_names net = map (λ domain. domain.name) net.domains

-- where the planner may place a device
abbrev pub side_of : Network → ℕ → Side
side_of net d = at_place net.devices d Root (λ device. device.side)

-- the devices and links of a listed domain
abbrev pub domain_of : Network → ℕ → Domain
domain_of net f = at_place net.domains f no_domain (λ domain. domain)

-- the device is one of the link's ends
abbrev pub is_end_of : LinkEntry → ℕ → Bool
is_end_of link d = nat_eq d link.end_a || nat_eq d link.end_b
