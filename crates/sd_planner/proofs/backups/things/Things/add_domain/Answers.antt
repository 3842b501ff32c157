use Rattle.std.proofs.Common.{◌≡◌, true, length, ap, subst, arith}
use Rattle.sd_num.specs.Lists.{has}
use Rattle.sd_num.proofs.Shared.{has_within}
use Rattle.sd_plan.specs.topo.Places.{domain_of}
use Rattle.sd_plan.specs.topo.Topologies.{network}
use Rattle.sd_plan.proofs.topo.Laws.{domain_law}
use Rattle.sd_planner.proofs.backups.things.Things.add_domain.Goals as goal

pub set_flags-requires : goal.set_flags-requires
set_flags-requires c x there =
    let net = network c.args.topo.now in
    let law = domain_law net c.args.domain c.args.topo.now.is_network c.requires.range in
    omega (
      arith,
      has_within (length net.devices) (domain_of net c.args.domain).devices x law.devices_within
          (subst (λ xs. has xs x ≡ true) c.domain_devices.ensures there),
      c.requires.sized.devices,
      ap length c.as_mut_slice.ensures.value,
    )

pub set_flags-requires-2 : goal.set_flags-requires-2
set_flags-requires-2 c x there =
    let net = network c.args.topo.now in
    let law = domain_law net c.args.domain c.args.topo.now.is_network c.requires.range in
    omega (
      arith,
      has_within (length net.links) (domain_of net c.args.domain).links x law.links_within
          (subst (λ xs. has xs x ≡ true) c.domain_links.ensures there),
      c.requires.sized.links,
      ap length c.as_mut_slice-2.ensures.value,
    )
