use Rattle.std.proofs.Common.{get_or, sym, ap, ◌∙◌, arith}
use Rattle.std.specs.List.{list_any}
use Rattle.std.proofs.lemmas.Bool.{or_from}
use Rattle.std.proofs.lemmas.List.Folds.{list_any_more, list_any_at}
use Rattle.sd_plan.specs.IndexedPlan.{has_device}
use Rattle.sd_plan.specs.Walks.{path}
use Rattle.sd_plan.specs.topo.Topologies.{network}
use Rattle.sd_checker.proofs.check_root.Domains.{device_at}
use Rattle.sd_checker.proofs.check_root.fallback.hits_device.Goals as goal

pub path_has_device-requires : goal.path_has_device-requires
path_has_device-requires c =
    omega (
      arith,
      device_at (network c.args.planned.topo.now) c.args.domain c.devices_in-d-items.result.now c.loop-d.d-index c.args.planned.topo.now.is_network
          c.requires c.devices_in-d-items.ensures c.loop-d-test.true,
    )

pub returns-then-path_has_device : goal.returns-then-path_has_device
returns-then-path_has_device c =
    let test = has_device (path (network c.args.planned.topo.now) c.args.planned.plan.now c.args.planned.plan.now.backup_root) in
    sym
    (ap (list_any test) (sym c.devices_in-d-items.ensures)
    ∙ list_any_at test c.devices_in-d-items.result.now c.loop-d.d-index 0 c.loop-d-test.true (sym (c.path_has_device.ensures) ∙ c.if-path_has_device.true))

pub loop-d-preserved : goal.loop-d-preserved
loop-d-preserved c =
    let test = has_device (path (network c.args.planned.topo.now) c.args.planned.plan.now c.args.planned.plan.now.backup_root) in
    let items = c.devices_in-d-items.result.now in
    list_any_more test items c.loop-d.d-index 0 c.loop-d-test.true
    ∙ or_from _ (test (get_or items c.loop-d.d-index 0)) c.loop-d.invariant (sym (c.path_has_device.ensures) ∙ c.if-path_has_device.false)
