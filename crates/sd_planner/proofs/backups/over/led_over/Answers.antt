use Rattle.std.proofs.Common.{◌<◌, length, arith, get_or, None, ap}
use Rattle.std.proofs.lemmas.Option.{slice_get-get_or}
use Rattle.sd_planner.specs.declared.placement.Placed.{Placed}
use Rattle.sd_planner.proofs.Leading.{over_more}
use Rattle.sd_planner.proofs.backups.over.led_over.Goals as goal

pub loop-placed-preserved : goal.loop-placed-preserved
loop-placed-preserved c =
    let i = c.loop-placed.placed-index in
    let list = c.args.placement.now.order in
    let within : i < length list = omega (arith, ap length c.order-placed-items.ensures.order) in
    rw c.order-placed-items.ensures.order
    (over_more c.requires.net c.requires.root c.requires.absent list c.requires.grown c.args.devices.now c.args.links.now c.requires.size i
    (get_or list i (record { device = 0; depth = 0; hop = None })) c.loop-placed.over.items c.is_over.result
    (slice_get-get_or list i (record { device = 0; depth = 0; hop = None }) within) c.loop-placed.invariant
    (rw (← c.order-placed-items.ensures.order) (rw (← c.as_slice.ensures.value) c.is_over.ensures)))

pub index_mut-requires : goal.index_mut-requires
index_mut-requires c =
    let i = c.loop-placed.placed-index in
    let list = c.args.placement.now.order in
    let within : i < length list = omega (arith, ap length c.order-placed-items.ensures.order) in
    let p : Placed = get_or list i (record { device = 0; depth = 0; hop = None }) in
    let member : p.device < length c.requires.net.devices =
    (c.requires.grown.members i p (slice_get-get_or list i (record { device = 0; depth = 0; hop = None }) within)).0 in
    rw c.order-placed-items.ensures.order (omega (arith, member, c.loop-placed.invariant.size, c.requires.size))
