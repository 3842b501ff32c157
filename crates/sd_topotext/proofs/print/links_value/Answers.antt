use Rattle.std.proofs.Common.{◌<◌, subst}
use Rattle.toml.specs.Data.{table}
use Rattle.sd_plan.specs.topo.Topologies.{network}
use Rattle.sd_plan.specs.topo.Network.{device_names}
use Rattle.sd_plan.specs.topo.Places.{no_named_link}
use Rattle.sd_topotext.specs.Printed.{link_tree}
use Rattle.sd_topotext.proofs.Printing.{items_more}
use Rattle.sd_topotext.proofs.print.links_value.Goals as goal

pub loop-l-preserved : goal.loop-l-preserved
loop-l-preserved c =
    items_more (λ link. table (link_tree (device_names (network c.args.topo.now)) link))
    (network c.args.topo.now).links c.loop-l.l no_named_link c.loop-l.items.items c.push.new.items.items c.in_ok-link.link
    (subst (λ n. c.loop-l.l < n) c.links-l-end.ensures c.loop-l-test.true) c.loop-l.invariant c.in_ok-link.ensures c.in_ok-push.ensures
