use Rattle.std.proofs.Common.{ap, sym, ◌∙◌}
use Rattle.sd_checker.specs.check_hit.Outages.{net_of, plan_of}
use Rattle.sd_checker.specs.check_loop.Graphs.{parent_place}
use Rattle.sd_checker.proofs.check_loop.Listed.{hit_place}
use Rattle.sd_checker.proofs.check_loop.graph.parent_place.Goals as goal

pub returns-in-Some : goal.returns-in-Some
returns-in-Some c =
    let o = c.args.outage.now in
    hit_place (net_of o) (plan_of o) o.domain o.hit.now o.hits c.place_of.result c.in-Some.hop.parent c.place_of.ensures
    ∙ sym (ap (parent_place o.hit.now) c.in-Some.is)
