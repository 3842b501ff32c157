use Rattle.sd_checker.specs.check_hit.Outages.{net_of, plan_of}
use Rattle.sd_checker.proofs.check_reach.domain_breach_in.Goals as goal

pub domain_breach-requires-clause-search : goal.domain_breach-requires-clause-search
domain_breach-requires-clause-search c = c.in_ok-search.ensures.fresh (net_of c.outage.result) (plan_of c.outage.result) c.outage.result.domain
