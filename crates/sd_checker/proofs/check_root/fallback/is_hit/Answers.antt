use Rattle.std.proofs.Common.{◌||◌, sym, ap, ◌∙◌}
use Rattle.std.specs.List.{list_any}
use Rattle.std.proofs.lemmas.Bool.{or_left}
use Rattle.sd_plan.specs.IndexedPlan.{has_device, has_link}
use Rattle.sd_plan.specs.Walks.{path}
use Rattle.sd_plan.specs.topo.Topologies.{network}
use Rattle.sd_checker.specs.check_root.Parts.{devices_in, links_in}
use Rattle.sd_checker.proofs.check_root.Domains.{hits_lists}
use Rattle.sd_checker.proofs.check_root.fallback.is_hit.Goals as goal

pub returns-then-hits_device : goal.returns-then-hits_device
returns-then-hits_device c =
    let net = network c.args.planned.topo.now in
    let things = path net c.args.planned.plan.now c.args.planned.plan.now.backup_root in
    c.if-hits_device.true
    ∙ sym
    (hits_lists net c.args.domain things c.requires
    ∙ or_left (list_any (has_device things) (devices_in net c.args.domain)) (list_any (has_link things) (links_in net c.args.domain))
    (sym c.hits_device.ensures ∙ c.if-hits_device.true))

pub returns-else-hits_device : goal.returns-else-hits_device
returns-else-hits_device c =
    let net = network c.args.planned.topo.now in
    let things = path net c.args.planned.plan.now c.args.planned.plan.now.backup_root in
    c.hits_link.ensures
    ∙ sym
    (hits_lists net c.args.domain things c.requires
    ∙ ap (λ t. t || list_any (has_link things) (links_in net c.args.domain)) (sym c.hits_device.ensures ∙ c.if-hits_device.false))
