use Rattle.std.proofs.Common.{◌||◌, nat_eq, find, sym, ap, ◌∙◌, arith}
use Rattle.sd_plan.specs.IndexedPlan.{has_link}
use Rattle.sd_plan.specs.Walks.{path}
use Rattle.sd_plan.specs.topo.Topologies.{network}
use Rattle.sd_checker.proofs.check_root.Domains.{link_at}
use Rattle.sd_num.proofs.Firsts.{find_more, find_here, find_all}
use Rattle.sd_checker.proofs.check_root.fallback.first_link.Goals as goal

pub needs_link-requires-clause-link : goal.needs_link-requires-clause-link
needs_link-requires-clause-link c =
    omega (
      arith,
      link_at (network c.args.planned.topo.now) c.args.domain c.links_in-l-items.result.now c.loop-l.l-index c.args.planned.topo.now.is_network
          c.requires.domain c.links_in-l-items.ensures c.loop-l-test.true,
    )

pub returns-then-needs_link : goal.returns-then-needs_link
returns-then-needs_link c =
    let net = network c.args.planned.topo.now in
    sym
    (ap (find (λ l. nat_eq l c.args.hop.link || has_link (path net c.args.planned.plan.now c.args.hop.parent) l)) (sym c.links_in-l-items.ensures)
    ∙ find_here (λ l. nat_eq l c.args.hop.link || has_link (path net c.args.planned.plan.now c.args.hop.parent) l) c.links_in-l-items.result.now
    c.loop-l.l-index 0 c.loop-l-test.true c.loop-l.invariant
    (sym (c.needs_link.ensures) ∙ c.if-needs_link.true))

pub loop-l-preserved : goal.loop-l-preserved
loop-l-preserved c =
    let net = network c.args.planned.topo.now in
    find_more (λ l. nat_eq l c.args.hop.link || has_link (path net c.args.planned.plan.now c.args.hop.parent) l) c.links_in-l-items.result.now c.loop-l.l-index
    0 c.loop-l-test.true c.loop-l.invariant
    (sym (c.needs_link.ensures) ∙ c.if-needs_link.false)

pub returns : goal.returns
returns c =
    let net = network c.args.planned.topo.now in
    sym
    (ap (find (λ l. nat_eq l c.args.hop.link || has_link (path net c.args.planned.plan.now c.args.hop.parent) l)) (sym c.links_in-l-items.ensures)
    ∙ find_all (λ l. nat_eq l c.args.hop.link || has_link (path net c.args.planned.plan.now c.args.hop.parent) l) c.links_in-l-items.result.now c.loop-l.l-index
    (omega arith) c.loop-l.invariant)
