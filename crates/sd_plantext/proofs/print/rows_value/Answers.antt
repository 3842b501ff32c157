use Rattle.std.proofs.Common.{◌<◌, length, ap, ◌∙◌, arith, map}
use Rattle.serde_json.specs.View.{view}
use Rattle.sd_plan.specs.topo.Topologies.{network}
use Rattle.sd_plantext.proofs.Listed.{row_at, rows_more}
use Rattle.sd_plantext.proofs.print.rows_value.Goals as goal

pub loop-d-preserved : goal.loop-d-preserved
loop-d-preserved c =
    let plan = c.args.plan.now in
    let d = c.loop-d.d in
    let same = c.as_slice-rows.ensures in
    let many = ap length same ∙ c.requires.fits.entries in
    let within : d < length c.as_slice-rows.result.now = omega (arith, many, c.devices-d-end.ensures, c.loop-d-test.true) in
    rows_more (network c.args.topo.now) plan d (map view c.loop-d.items.items) (map view c.push_row.new.items.items) _ c.loop-d.invariant
    (row_at c.as_slice-rows.result.now plan d _ same within) c.in_ok-push_row.ensures
