-- What contracts see of a plan under an outage, and when an outage can do no harm.
use Rattle.std.specs.Prelude.{◌≡◌, ℕ, ◌<◌, true, false, List, length, ◌⊎◌}
use Rattle.sd_plan.specs.topo.Network.{Network}
use Rattle.sd_plan.specs.domain.Domains.{holds_device}
use Rattle.sd_plan.specs.declared.domain.DomainId.{DomainId}
use Rattle.sd_plan.specs.Walks.{is_hit}
use Rattle.sd_plan.specs.declared.Plan.{Plan}
use Rattle.sd_checker.specs.check_hit.Outages as outages
use Rattle.sd_checker.specs.check_reach.Reach.{acting_end}
use Rattle.sd_checker.specs.declared.check_reach.aftermath.Aftermath.{Aftermath}

-- the network, the plan and the domain, and the devices that it hits
abbrev pub net_of : Aftermath → Network
net_of a = outages.net_of a.outage

-- the plan
abbrev pub plan_of : Aftermath → Plan
plan_of a = outages.plan_of a.outage

-- the domain
abbrev pub domain_of : Aftermath → DomainId
domain_of a = a.outage.domain

-- the devices that it hits
abbrev pub hit_of : Aftermath → List ℕ
hit_of a = a.outage.hit.now

-- the domain hits no device, or it has the acting end
pub record IsHarmless (net : Network) (plan : Plan) (domain : DomainId) : Type 0 where
  pub harmless : ((d : ℕ) → d < length net.devices → is_hit net plan domain d ≡ false) ⊎ (holds_device net domain (acting_end net plan domain) ≡ true)
