use Rattle.std.proofs.Common.{◌≡◌, [], length, map, not, replicate, subst, refl, sym, ap, ◌∙◌, arith}
use Rattle.sd_num.specs.Lists.{has}
use Rattle.sd_plan.specs.topo.Network.{device_numbers}
use Rattle.sd_plan.specs.topo.Topologies.{network}
use Rattle.sd_plan.specs.Usable.{usable_before}
use Rattle.sd_plan.proofs.Numbered.{length-numbered}
use Rattle.sd_plan.proofs.Listing.{rows_empty, flag_read}
use Rattle.sd_plan.proofs.index.usable.usable_ends.Goals as goal

pub loop-l-init : goal.loop-l-init
loop-l-init c =
    c.in_ok-rows.ensures
    ∙ subst (λ n. replicate n [] ≡ map (usable_before (network c.args.topo.now) c.args.plan.now 0) (device_numbers (network c.args.topo.now)))
    (sym c.devices.ensures)
    (rows_empty (usable_before (network c.args.topo.now) c.args.plan.now 0) (length (network c.args.topo.now).devices) (λ d within. refl))

pub index-requires : goal.index-requires
index-requires c =
    omega (
      arith,
      ap length c.in_ok-links.ensures,
      length-numbered
          (λ x. not (has c.as_slice.result.now x)) c.links.result,
      c.links.ensures,
      c.in_ok-links.links.ok.0,
    )

pub add_link-requires-clause-present : goal.add_link-requires-clause-present
add_link-requires-clause-present c =
    flag_read c.as_slice.result.now c.args.plan.now.absent.links c.links.result c.loop-l.l c.in_ok-links.links.items c.index.result.now
    c.in_ok-links.ensures c.as_slice.ensures (omega (arith, c.links.ensures)) c.index.ensures
