use Rattle.std.proofs.Common.{◌∙◌, subst, arith}
use Rattle.sd_plan.specs.topo.Topologies.{network}
use Rattle.sd_drill.specs.declared.Budget.{Budget}
use Rattle.sd_search.specs.Ratings.{Adds}
use Rattle.sd_search.proofs.Ratings.{missing_more, rated_more}
use Rattle.sd_search.proofs.rating.rate_indexed.Goals as goal

pub loop-place-preserved : goal.loop-place-preserved
loop-place-preserved c =
    let net = network c.args.planned.topo.now in
    let plan = c.args.planned.plan.now in
    let before = c.loop-place.rating in
    let after = c.in_ok-rating.rating in
    let f = c.domain_at-domain.result in
    let adds : Adds net plan c.args.budget f before after =
    subst (λ (b : Budget). Adds net plan b f before after) c.loop-place.invariant.budget c.in_ok-rating.ensures.rating in
    record {
      rating = rated_more net plan c.args.budget c.loop-place.place f before after c.domain_at-domain.ensures.at c.loop-place.invariant.rating adds;
      missing = omega (arith, missing_more net plan c.args.budget f before after c.args.planned.topo.now.is_network adds, c.loop-place.invariant.missing);
      drill = c.rate_under.ensures.drill;
      budget = c.rate_under.ensures.budget ∙ c.loop-place.invariant.budget;
    }
