use Rattle.std.proofs.Common.{sym, subst}
use Rattle.sd_plan.specs.topo.Topologies.{network}
use Rattle.sd_plan.specs.declared.domain.DomainId.{DomainId}
use Rattle.sd_plan.specs.declared.indexed.IndexedPlan.{IndexedPlan}
use Rattle.sd_checker.specs.check_hit.Outages.{net_of, plan_of}
use Rattle.sd_checker.specs.check_loop.Loops.{HasNoCycle}
use Rattle.sd_drill.proofs.drill.Drill.worst.Goals as goal

pub bounds_under-requires-clause-acyclic : goal.bounds_under-requires-clause-acyclic
bounds_under-requires-clause-acyclic c =
    let outage = c.outage-outage.result in
    subst (λ (f : DomainId). HasNoCycle (net_of outage) (plan_of outage) f) (sym c.outage-outage.ensures.domain)
    (subst (λ (planned : IndexedPlan). HasNoCycle (network planned.topo.now) planned.plan.now c.args.domain)
    (sym c.outage-outage.ensures.planned) c.requires.acyclic)
