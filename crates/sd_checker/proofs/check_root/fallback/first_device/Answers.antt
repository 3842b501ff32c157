use Rattle.std.proofs.Common.{◌&&◌, not, find, sym, ap, ◌∙◌, arith}
use Rattle.sd_plan.specs.Plans.{is_root}
use Rattle.sd_plan.specs.Walks.{on_walk}
use Rattle.sd_plan.specs.topo.Topologies.{network}
use Rattle.sd_checker.proofs.check_root.Domains.{device_at}
use Rattle.sd_num.proofs.Firsts.{find_more, find_here}
use Rattle.sd_checker.proofs.check_root.fallback.first_device.Goals as goal

pub needs_device-requires-clause-device : goal.needs_device-requires-clause-device
needs_device-requires-clause-device c =
    omega (
      arith,
      device_at (network c.args.planned.topo.now) c.args.domain c.devices_in-d-items.result.now c.loop-d.d-index c.args.planned.topo.now.is_network
          c.requires.domain c.devices_in-d-items.ensures c.loop-d-test.true,
    )

pub returns-then-needs_device : goal.returns-then-needs_device
returns-then-needs_device c =
    let net = network c.args.planned.topo.now in
    sym
    (ap (find (λ d. not (is_root c.args.planned.plan.now d) && on_walk net c.args.planned.plan.now c.args.from d)) (sym c.devices_in-d-items.ensures)
    ∙ find_here (λ d. not (is_root c.args.planned.plan.now d) && on_walk net c.args.planned.plan.now c.args.from d) c.devices_in-d-items.result.now
    c.loop-d.d-index 0 c.loop-d-test.true c.loop-d.invariant
    (sym (c.needs_device.ensures) ∙ c.if-needs_device.true))

pub loop-d-preserved : goal.loop-d-preserved
loop-d-preserved c =
    let net = network c.args.planned.topo.now in
    find_more (λ d. not (is_root c.args.planned.plan.now d) && on_walk net c.args.planned.plan.now c.args.from d) c.devices_in-d-items.result.now
    c.loop-d.d-index 0 c.loop-d-test.true c.loop-d.invariant
    (sym (c.needs_device.ensures) ∙ c.if-needs_device.false)
