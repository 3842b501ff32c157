use Rattle.std.proofs.Common.{◌<◌, ◌+◌, ◌∷◌, length, drop, ◌∙◌, ap, sym, arith}
use Rattle.std.proofs.lemmas.List.{drop_more}
use Rattle.serde_json.specs.declared.value.Value.{Value}
use Rattle.sd_plan.specs.topo.Topologies.{network}
use Rattle.sd_plantext.proofs.Rows.{filled_within, rows_fail}
use Rattle.sd_plantext.proofs.read.rows.all_rows.Goals as goal

pub overflow_add-entry : goal.overflow_add-entry
overflow_add-entry c =
    let within = filled_within c.loop-item.rows.items in
    omega (arith, c.args.topo.now.is_network.devices, c.loop-item.rows.ok.0)

pub returns-in-Err-add_row : goal.returns-in-Err-add_row
returns-in-Err-add_row c =
    let i = c.loop-item.item-index in
    let items = c.args.items.now in
    let v = c.item-item.result in
    let within : i < length items = omega arith in
    let first = drop_more items i v within ∙ ap (λ (w : Value). w ∷ drop (i + 1) items) (sym c.item-item.is) in
    rows_fail (network c.args.topo.now) c.in-Err-add_row.fault c.loop-item.entry c.loop-item.rows.items v (drop (i + 1) items)
    (drop i items) _ first c.in-Err-add_row.ensures.err c.loop-item.invariant.rows
