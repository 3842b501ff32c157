-- The devices that a fault domain hits.
use Rattle.std.specs.Prelude.{ℕ, List, filter}
use Rattle.sd_plan.specs.topo.Network.{Network, device_numbers}
use Rattle.sd_plan.specs.declared.domain.DomainId.{DomainId}
use Rattle.sd_plan.specs.Walks.{is_hit}
use Rattle.sd_plan.specs.declared.Plan.{Plan}

-- the devices that the domain hits, ascending: it has a device or link of their cut path
abbrev pub hit_by : Network → Plan → DomainId → List ℕ
hit_by net plan domain = filter (is_hit net plan domain) (device_numbers net)
