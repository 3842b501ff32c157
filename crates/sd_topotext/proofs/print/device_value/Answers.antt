use Rattle.std.proofs.Common.{ap, ◌∙◌, get_or}
use Rattle.toml.specs.Data.{table}
use Rattle.toml.specs.View.{table_view, view, members_view}
use Rattle.sd_plan.specs.topo.Topologies.{network}
use Rattle.sd_plan.specs.topo.Places.{no_device}
use Rattle.sd_topotext.proofs.Printing.{device_told, device_made}
use Rattle.sd_topotext.proofs.print.device_value.Goals as goal

pub returns : goal.returns
returns c =
    let told = device_told (network c.args.topo.now) c.args.d c.requires in
    c.of_table.ensures ∙ ap table (device_made (get_or (network c.args.topo.now).devices c.args.d no_device)
    (table_view c.new-members.result) (table_view c.put_number.new.table) (table_view c.put_number-2.new.table) (table_view c.put.new.table)
    (table_view c.put_text.new.table)
    c.device_name.result.now c.side.result c.rates-rates.result c.from.result (view c.in_ok-side.side)
    (c.device_name.ensures ∙ told.0) (c.side.ensures ∙ told.1) (c.rates-rates.ensures ∙ told.2) c.from.ensures c.in_ok-side.ensures
    (ap members_view c.new-members.ensures.empty) c.in_ok-put_number.ensures c.in_ok-put_number-2.ensures c.in_ok-put.ensures c.in_ok-put_text.ensures)
