use Rattle.std.proofs.Common.{◌≡◌, ℕ, ◌+◌, length, Option, sym, ◌∙◌, subst, arith}
use Rattle.sd_plan.specs.domain.Domains.{domains}
use Rattle.sd_plan.specs.topo.Topologies.{network}
use Rattle.sd_plan.specs.declared.indexed.IndexedPlan.{IndexedPlan}
use Rattle.sd_checker.specs.check_reach.Searches.{HasRoom}
use Rattle.sd_checker.specs.declared.Breach.{Breach}
use Rattle.sd_checker.specs.Findings.{IsFoundAmong, Judges}
use Rattle.sd_checker.proofs.Breaches.{found_of_none, found_more, found_loop, found_no_more, found_of_all}
use Rattle.sd_checker.proofs.Outages.{judged_as}
use Rattle.sd_checker.proofs.hits.hit_breach.Goals as goal
use Rattle.sd_checker.proofs.hits.hit_breach.Goals.{in-Some+else-is_loop, in_default}

pub loop-place-init : goal.loop-place-init
loop-place-init c =
    record {
      found = found_of_none (network c.args.planned.topo.now) c.args.planned.plan.now;
      impact = c.in_ok-impact.ensures;
      search = c.in_ok-search.ensures.room;
    }

pub earlier_breach-requires-clause-search : goal.earlier_breach-requires-clause-search
earlier_breach-requires-clause-search c = c.clear.ensures.fresh _ _ _

pub earlier_breach-requires-clause-room : goal.earlier_breach-requires-clause-room
earlier_breach-requires-clause-room c =
    subst (λ (p : IndexedPlan). HasRoom (network p.topo.now) c.clear.new.self) (sym c.outage-outage.ensures.planned)
    (c.clear.ensures.room (network c.args.planned.topo.now) c.loop-place.invariant.search)

pub returns-then-is_loop : goal.returns-then-is_loop
returns-then-is_loop c =
    let net = network c.args.planned.topo.now in
    let plan = c.args.planned.plan.now in
    let before = c.loop-place.found in
    let domain = c.domain_at-domain.result in
    let judged : Judges net plan before domain c.in_ok-breach.field-0 =
    judged_as c.outage-outage.result c.args.planned domain before c.in_ok-breach.field-0 c.outage-outage.ensures.planned c.outage-outage.ensures.domain
    c.in_ok-breach.ensures.judged in
    found_loop net plan c.loop-place.place before domain c.in-Some.breach c.requires c.loop-place.invariant.found c.domain_at-domain.ensures.at
    (subst (λ (o : Option Breach). Judges net plan before domain o) c.in-Some.is judged) (sym c.is_loop.ensures ∙ c.if-is_loop.true)

pub loop-place-preserved : goal.loop-place-preserved
loop-place-preserved c =
    let net = network c.args.planned.topo.now in
    let plan = c.args.planned.plan.now in
    let k = c.loop-place.place in
    let before = c.loop-place.found in
    let domain = c.domain_at-domain.result in
    let judged : Judges net plan before domain c.in_ok-breach.field-0 =
    judged_as c.outage-outage.result c.args.planned domain before c.in_ok-breach.field-0 c.outage-outage.ensures.planned c.outage-outage.ensures.domain
    c.in_ok-breach.ensures.judged in
    record {
      found =
          elim c.match-branch-5.branch as (λ _. IsFoundAmong net plan (k + 1) c.match-branch-5.found) [
            | in-Some+else-is_loop w ↦
                subst (λ (o : Option Breach). IsFoundAmong net plan (k + 1) o) (sym w.found-is)
                (found_more net plan k before domain w.in-Some.breach c.loop-place.invariant.found c.domain_at-domain.ensures.at
                (subst (λ (o : Option Breach). Judges net plan before domain o) w.in-Some.is judged)
                (sym w.is_loop.ensures ∙ w.if-is_loop.false))
            | in_default w ↦
                subst (λ (o : Option Breach). IsFoundAmong net plan (k + 1) o) (sym w.found-is)
                (found_no_more net plan k before domain c.loop-place.invariant.found c.domain_at-domain.ensures.at
                (subst (λ (o : Option Breach). Judges net plan before domain o) w.in_default.is judged))
          ];
      impact = c.strike.ensures.room;
      search = subst (λ (p : IndexedPlan). HasRoom (network p.topo.now) c.earlier_breach.new.search) c.outage-outage.ensures.planned c.earlier_breach.ensures.room;
    }

pub returns : goal.returns
returns c =
    let net = network c.args.planned.topo.now in
    let plan = c.args.planned.plan.now in
    let count : c.loop-place.place ≡ length (domains net) =
    omega (arith, c.loop-place-test.false, c.loop-place.auto.place-end, c.domain_count-place-end.ensures) in
    found_of_all net plan c.loop-place.found c.requires (subst (λ (n : ℕ). IsFoundAmong net plan n c.loop-place.found) count c.loop-place.invariant.found)
