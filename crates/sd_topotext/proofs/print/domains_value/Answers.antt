use Rattle.std.proofs.Common.{◌<◌, subst}
use Rattle.toml.specs.Data.{table}
use Rattle.sd_plan.specs.topo.Topologies.{network}
use Rattle.sd_plan.specs.topo.Network.{device_names, link_names}
use Rattle.sd_plan.specs.topo.Places.{no_domain}
use Rattle.sd_topotext.specs.Printed.{domain_tree}
use Rattle.sd_topotext.proofs.Printing.{items_more}
use Rattle.sd_topotext.proofs.print.domains_value.Goals as goal

pub loop-f-preserved : goal.loop-f-preserved
loop-f-preserved c =
    items_more (λ domain. table (domain_tree (device_names (network c.args.topo.now)) (link_names (network c.args.topo.now)) domain))
    (network c.args.topo.now).domains c.loop-f.f no_domain c.loop-f.items.items c.push.new.items.items c.in_ok-domain.domain
    (subst (λ n. c.loop-f.f < n) c.domains-f-end.ensures c.loop-f-test.true) c.loop-f.invariant c.in_ok-domain.ensures c.in_ok-push.ensures
