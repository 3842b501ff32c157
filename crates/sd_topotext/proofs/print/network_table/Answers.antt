use Rattle.std.proofs.Common.{ap, ◌∙◌}
use Rattle.toml.specs.View.{table_view, view}
use Rattle.sd_plan.specs.topo.Topologies.{network}
use Rattle.sd_plan.specs.topo.Network.{device_names}
use Rattle.sd_topotext.specs.Printed.{names_data}
use Rattle.sd_topotext.proofs.Printing.{network_made}
use Rattle.sd_topotext.proofs.print.network_table.Goals as goal

pub returns : goal.returns
returns c =
    let net = network c.args.topo.now in
    network_made net (table_view c.in_ok-members.members) (table_view c.put.new.table) (table_view c.put-2.new.table) (table_view c.put-3.new.table)
    (table_view c.put-4.new.table)
    (view c.in_ok-roots.roots) (view c.in_ok-domains.domains) (view c.in_ok-links.links) (view c.in_ok-devices.devices)
    c.in_ok-members.ensures (c.in_ok-roots.ensures ∙ ap (names_data (device_names net)) c.roots.ensures)
    c.in_ok-domains.ensures c.in_ok-links.ensures c.in_ok-devices.ensures
    c.in_ok-put.ensures c.in_ok-put-2.ensures c.in_ok-put-3.ensures c.in_ok-put-4.ensures
