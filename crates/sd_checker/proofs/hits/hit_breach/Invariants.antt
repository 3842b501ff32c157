use Rattle.sd_plan.specs.topo.Topologies.{network}
use Rattle.sd_checker.specs.check_hit.Outages as outages
use Rattle.sd_checker.specs.check_reach.Searches as searches
use Rattle.sd_checker.specs.Findings.{IsFoundAmong}
use Rattle.sd_checker.proofs.hits.hit_breach.Given as goal

-- what was found of the domains before, and room for the next
abbrev pub invariant-loop-place : goal.invariant-loop-place
invariant-loop-place l =
    record {
      found : IsFoundAmong (network l.planned.topo.now) l.planned.plan.now l.place l.found;
      impact : outages.HasRoom (network l.planned.topo.now) l.impact;
      search : searches.HasRoom (network l.planned.topo.now) l.search;
    }
