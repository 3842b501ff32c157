use Rattle.std.proofs.Common.{ap}
use Rattle.toml.specs.View.{table_view, members_view}
use Rattle.sd_plan.specs.topo.Topologies.{network}
use Rattle.sd_topotext.proofs.Printing.{params_made}
use Rattle.sd_topotext.proofs.print.params_table.Goals as goal

pub returns : goal.returns
returns c =
    params_made (network c.args.topo.now) (table_view c.new-members.result) (table_view c.put_number.new.table) (table_view c.put_number-2.new.table)
    (table_view c.put_number-3.new.table)
    (table_view c.put_number-4.new.table) (table_view c.put_number-5.new.table) (table_view c.put_number-6.new.table) (table_view c.put_number-7.new.table)
    c.params-params.result c.from.result c.from-2.result c.from-3.result
    c.params-params.ensures c.from.ensures c.from-2.ensures c.from-3.ensures (ap members_view c.new-members.ensures.empty)
    c.in_ok-put_number.ensures c.in_ok-put_number-2.ensures c.in_ok-put_number-3.ensures c.in_ok-put_number-4.ensures c.in_ok-put_number-5.ensures
    c.in_ok-put_number-6.ensures c.in_ok-put_number-7.ensures
