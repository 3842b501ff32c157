use Rattle.std.proofs.Common.{◌≡◌, length, sym, ◌∙◌, arith}
use Rattle.std.proofs.lemmas.Option.{slice_get_within}
use Rattle.sd_plan.specs.domain.Domains.{domains}
use Rattle.sd_plan.specs.topo.Topologies.{network}
use Rattle.sd_checker.specs.Conditions.{RootHolds}
use Rattle.sd_checker.proofs.Breaches.{one_more}
use Rattle.sd_checker.proofs.roots.first_root_breach.Goals as goal

pub loop-place-init : goal.loop-place-init
loop-place-init c = λ j g before at. absurd (omega arith)

pub loop-place-preserved : goal.loop-place-preserved
loop-place-preserved c =
    let net = network c.args.planned.topo.now in
    one_more net (RootHolds net c.args.planned.plan.now) c.loop-place.place c.domain_at-domain.result c.loop-place.invariant c.domain_at-domain.ensures.at
    (sym c.root_breach_in.ensures ∙ c.in_default.is)

pub returns-in-Some : goal.returns-in-Some
returns-in-Some c = ((c.loop-place.place, c.domain_at-domain.ensures.at, c.loop-place.invariant), sym c.root_breach_in.ensures ∙ c.in-Some.is)

pub returns : goal.returns
returns c =
    let net = network c.args.planned.topo.now in
    let count : c.loop-place.place ≡ length (domains net) =
    omega (arith, c.loop-place-test.false, c.loop-place.auto.place-end, c.domain_count-place-end.ensures) in
    λ j f at. c.loop-place.invariant j f (let within = slice_get_within (domains net) j f at in omega arith) at
