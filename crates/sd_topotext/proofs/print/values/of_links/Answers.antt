use Rattle.std.proofs.Common.{ap, ◌∙◌}
use Rattle.toml.specs.Data.{string}
use Rattle.sd_plan.specs.topo.Network.{link_names, name_at}
use Rattle.sd_plan.specs.topo.Topologies.{network}
use Rattle.sd_topotext.proofs.Printing.{items_more}
use Rattle.sd_topotext.proofs.print.values.of_links.Goals as goal

pub loop-l-preserved : goal.loop-l-preserved
loop-l-preserved c =
    items_more (λ n. string (name_at (link_names (network c.args.topo.now)) n)) c.args.links.now c.loop-l.l-index 0 c.loop-l.items.items c.push.new.items.items
    c.in_ok-name.name
    c.loop-l-test.true c.loop-l.invariant (c.in_ok-name.ensures ∙ ap string c.link_name.ensures) c.in_ok-push.ensures
