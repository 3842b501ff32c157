use Rattle.std.proofs.Common.{get_or, sym, ap, ◌∙◌, arith}
use Rattle.std.specs.List.{list_any}
use Rattle.std.proofs.lemmas.Bool.{or_from}
use Rattle.std.proofs.lemmas.List.Folds.{list_any_more, list_any_at}
use Rattle.sd_plan.specs.IndexedPlan.{has_link}
use Rattle.sd_plan.specs.Walks.{path}
use Rattle.sd_plan.specs.topo.Topologies.{network}
use Rattle.sd_checker.proofs.check_root.Domains.{link_at}
use Rattle.sd_checker.proofs.check_root.fallback.hits_link.Goals as goal

pub path_has_link-requires : goal.path_has_link-requires
path_has_link-requires c =
    omega (
      arith,
      link_at (network c.args.planned.topo.now) c.args.domain c.links_in-l-items.result.now c.loop-l.l-index c.args.planned.topo.now.is_network
          c.requires c.links_in-l-items.ensures c.loop-l-test.true,
    )

pub returns-then-path_has_link : goal.returns-then-path_has_link
returns-then-path_has_link c =
    let net = network c.args.planned.topo.now in
    let test = has_link (path net c.args.planned.plan.now c.args.planned.plan.now.backup_root) in
    sym
    (ap (list_any test) (sym c.links_in-l-items.ensures)
    ∙ list_any_at test c.links_in-l-items.result.now c.loop-l.l-index 0 c.loop-l-test.true
    (sym (c.path_has_link.ensures) ∙ c.if-path_has_link.true))

pub loop-l-preserved : goal.loop-l-preserved
loop-l-preserved c =
    let net = network c.args.planned.topo.now in
    let test = has_link (path net c.args.planned.plan.now c.args.planned.plan.now.backup_root) in
    let items = c.links_in-l-items.result.now in
    list_any_more test items c.loop-l.l-index 0 c.loop-l-test.true
    ∙ or_from _ (test (get_or items c.loop-l.l-index 0)) c.loop-l.invariant
    (sym (c.path_has_link.ensures) ∙ c.if-path_has_link.false)
