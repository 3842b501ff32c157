-- What contracts see of a fault domain over a plan, and of what a domain fails and hits.
use Rattle.std.specs.Prelude.{◌≡◌, length}
use Rattle.sd_plan.specs.topo.Network.{Network}
use Rattle.sd_plan.specs.topo.Topologies.{network}
use Rattle.sd_plan.specs.domain.Lone.{IsDomain}
use Rattle.sd_plan.specs.domain.Failing.{HasRoomFor, IsFailureOf}
use Rattle.sd_plan.specs.declared.domain.DomainId.{DomainId}
use Rattle.sd_plan.specs.declared.Plan.{Plan}
use Rattle.sd_checker.specs.check_hit.Hit.{hit_by}
use Rattle.sd_checker.specs.check_hit.Places.{ArePlaces}
use Rattle.sd_checker.specs.declared.check_hit.impact.Impact.{Impact}
use Rattle.sd_checker.specs.declared.check_hit.outage.Outage.{Outage}

-- the network of an outage, and its plan
abbrev pub net_of : Outage → Network
net_of outage = network outage.planned.topo.now

-- the plan of an outage
abbrev pub plan_of : Outage → Plan
plan_of outage = outage.planned.plan.now

-- there is room for what a domain of the network fails and hits
pub record HasRoom (net : Network) (impact : Impact) : Type 0 where
  pub failed : HasRoomFor net impact.failed
  pub places : length impact.places.items ≡ length net.devices

-- what the domain fails and hits
pub record IsImpactOf (net : Network) (plan : Plan) (domain : DomainId) (impact : Impact) : Type 0 where
  pub is_domain : IsDomain net domain
  pub fails : IsFailureOf net domain impact.failed
  pub hits : impact.hit ≡ hit_by net plan domain
  pub placed : ArePlaces (length net.devices) impact.hit impact.places.items
