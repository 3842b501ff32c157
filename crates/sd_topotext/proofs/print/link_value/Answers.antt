use Rattle.std.proofs.Common.{ap, ◌∙◌, get_or}
use Rattle.toml.specs.Data.{table}
use Rattle.toml.specs.View.{table_view, view, members_view}
use Rattle.sd_plan.specs.topo.Topologies.{network}
use Rattle.sd_plan.specs.topo.Network.{device_names}
use Rattle.sd_plan.specs.topo.Places.{no_named_link}
use Rattle.sd_topotext.proofs.Printing.{link_told, link_made}
use Rattle.sd_topotext.proofs.print.link_value.Goals as goal

pub returns : goal.returns
returns c =
    let told = link_told (network c.args.topo.now) c.args.l c.requires in
    c.of_table.ensures ∙ ap table (link_made (device_names (network c.args.topo.now)) (get_or (network c.args.topo.now).links c.args.l no_named_link)
    (table_view c.new-members.result) (table_view c.put_number.new.table) (table_view c.put_number-2.new.table) (table_view c.put_number-3.new.table)
    (table_view c.put_number-4.new.table)
    (table_view c.put.new.table) (table_view c.put_text.new.table) c.link_name.result.now c.link-link.result (view c.in_ok-ends.ends)
    (c.link_name.ensures ∙ told.0) (c.link-link.ensures ∙ told.1) c.in_ok-ends.ensures (ap members_view c.new-members.ensures.empty)
    c.in_ok-put_number.ensures c.in_ok-put_number-2.ensures c.in_ok-put_number-3.ensures c.in_ok-put_number-4.ensures c.in_ok-put.ensures
    c.in_ok-put_text.ensures)
