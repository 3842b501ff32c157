use Rattle.std.proofs.Common.{◌∙◌}
use Rattle.sd_checker.specs.check_hit.Outages.{net_of, plan_of}
use Rattle.sd_checker.proofs.check_hit.HitList.{hit_by_place}
use Rattle.sd_checker.proofs.check_hit.outage.Outage.hits.Goals as goal

pub returns : goal.returns
returns c =
    let o = c.args.self.now in
    c.is_some.ensures ∙ hit_by_place (net_of o) (plan_of o) o.domain c.place_of.result o.hit.now c.args.d o.hits c.place_of.ensures
