-- What is said of an outage is said of its plan and domain.
use Rattle.std.proofs.Common.{◌≡◌, Option, subst}
use Rattle.sd_plan.specs.topo.Topologies.{network}
use Rattle.sd_plan.specs.declared.domain.DomainId.{DomainId}
use Rattle.sd_plan.specs.declared.indexed.IndexedPlan.{IndexedPlan}
use Rattle.sd_checker.specs.check_hit.Outages.{net_of, plan_of}
use Rattle.sd_checker.specs.declared.check_hit.outage.Outage.{Outage}
use Rattle.sd_checker.specs.declared.Breach.{Breach}
use Rattle.sd_checker.specs.Findings.{Judges}

pub judged_as : (outage : Outage) (planned : IndexedPlan) (domain : DomainId) (found said : Option Breach) → outage.planned ≡ planned → outage.domain ≡ domain
    → Judges (net_of outage) (plan_of outage) found outage.domain said → Judges (network planned.topo.now) planned.plan.now found domain said
judged_as outage planned domain found said same_plan same_domain judged =
    subst (λ (d : DomainId). Judges (network planned.topo.now) planned.plan.now found d said) same_domain
    (subst (λ (p : IndexedPlan). Judges (network p.topo.now) p.plan.now found outage.domain said) same_plan judged)
