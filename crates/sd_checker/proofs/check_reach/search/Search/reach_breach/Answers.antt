use Rattle.std.proofs.Common.{IfOk, sym, subst}
use Rattle.sd_checker.specs.check_hit.Outages.{net_of, plan_of}
use Rattle.sd_checker.specs.declared.check_hit.outage.Outage.{Outage}
use Rattle.sd_plan.proofs.Rules.{keeps_rules}
use Rattle.sd_checker.specs.check_reach.Answered.{ReachShown}
use Rattle.sd_checker.specs.check_reach.Searches.{HasRoom, IsSearchOf}
use Rattle.sd_checker.proofs.check_reach.Chosen.{harmless_reach}
use Rattle.sd_checker.proofs.check_reach.search.Search.reach_breach.Goals as goal

pub reach_breach-requires-clause-search : goal.reach_breach-requires-clause-search
reach_breach-requires-clause-search c =
    subst (λ (o : Outage). IsSearchOf (net_of o) (plan_of o) o.domain c.args.self.now) (sym c.in-Some.ensures) c.requires.search

pub reach_breach-requires-clause-room : goal.reach_breach-requires-clause-room
reach_breach-requires-clause-room c = subst (λ (o : Outage). HasRoom (net_of o) c.args.self.now) (sym c.in-Some.ensures) c.requires.room

pub returns-in-Some-clause-shown : goal.returns-in-Some-clause-shown
returns-in-Some-clause-shown c =
    subst (λ (o : Outage). IfOk c.reach_breach.result (ReachShown (net_of o) (plan_of o) o.domain)) c.in-Some.ensures c.reach_breach.ensures.shown

pub returns-in-None-clause-shown : goal.returns-in-None-clause-shown
returns-in-None-clause-shown c =
    let o = c.args.outage.now in
    let index = o.planned.is_index in
    harmless_reach (net_of o) (plan_of o) o.domain index.fits (keeps_rules (net_of o) (plan_of o) index.structured) c.in-None.ensures
