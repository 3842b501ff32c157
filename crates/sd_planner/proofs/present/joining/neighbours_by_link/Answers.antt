use Rattle.std.proofs.Common.{◌≡◌, [], length, map, replicate, subst, refl, sym, ◌∙◌}
use Rattle.sd_plan.specs.topo.Network.{device_numbers}
use Rattle.sd_plan.specs.topo.Topologies.{network}
use Rattle.sd_planner.specs.Gathered.{over_before}
use Rattle.sd_plan.proofs.Listing.{rows_empty}
use Rattle.sd_planner.proofs.present.joining.neighbours_by_link.Goals as goal

pub loop-l-init : goal.loop-l-init
loop-l-init c =
    let net = network c.args.topo.now in
    c.in_ok-rows.ensures
    ∙ subst (λ n. replicate n [] ≡ map (over_before net c.args.usable.now 0) (device_numbers net)) (sym c.devices.ensures)
    (rows_empty (over_before net c.args.usable.now 0) (length net.devices) (λ d within. refl))
