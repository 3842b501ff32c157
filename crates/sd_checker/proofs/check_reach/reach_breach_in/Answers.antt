use Rattle.sd_checker.specs.check_hit.Outages.{net_of, plan_of}
use Rattle.sd_checker.proofs.check_reach.reach_breach_in.Goals as goal

pub reach_breach-requires-clause-search : goal.reach_breach-requires-clause-search
reach_breach-requires-clause-search c = c.in_ok-search.ensures.fresh (net_of c.outage.result) (plan_of c.outage.result) c.outage.result.domain
