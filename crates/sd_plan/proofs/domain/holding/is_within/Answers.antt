use Rattle.std.proofs.Common.{sym, ◌∙◌}
use Rattle.sd_plan.specs.topo.Topologies.{network}
use Rattle.sd_plan.proofs.domain.Things.{listed_ascend, list_all-listed, list_all-missed}
use Rattle.sd_plan.proofs.domain.holding.is_within.Goals as goal

pub lists_all-requires : goal.lists_all-requires
lists_all-requires c = rw c.domain_devices.ensures (listed_ascend (network c.args.topo.now) c.args.k c.args.topo.now.is_network c.requires).0

pub lists_all-requires-then-lists_all : goal.lists_all-requires-then-lists_all
lists_all-requires-then-lists_all c = rw c.domain_links.ensures (listed_ascend (network c.args.topo.now) c.args.k c.args.topo.now.is_network c.requires).1

pub returns-then-lists_all : goal.returns-then-lists_all
returns-then-lists_all c =
    let told = list_all-listed (network c.args.topo.now) c.args.k c.args.failed.now _ _ c.requires c.devices.ensures.all c.links.ensures.all in
    rw (told, ← c.domain_devices.ensures, ← c.domain_links.ensures, ← c.lists_all.ensures, c.if-lists_all.true) c.lists_all-then-lists_all.ensures

pub returns-else-lists_all : goal.returns-else-lists_all
returns-else-lists_all c =
    c.if-lists_all.false
    ∙ sym (list_all-missed (network c.args.topo.now) c.args.k c.args.failed.now _ c.requires c.devices.ensures.all
    (rw (← c.domain_devices.ensures) (sym c.if-lists_all.ensures)))
