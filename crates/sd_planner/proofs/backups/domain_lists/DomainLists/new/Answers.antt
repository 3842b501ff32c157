use Rattle.std.proofs.Common.{◌≡◌, true, length, arith, ap, subst}
use Rattle.sd_num.specs.Lists.{has}
use Rattle.sd_num.proofs.Shared.{has_within}
use Rattle.sd_plan.specs.topo.Places.{domain_of}
use Rattle.sd_plan.specs.topo.Topologies.{network}
use Rattle.sd_plan.proofs.topo.Laws.{domain_law}
use Rattle.sd_planner.proofs.backups.domain_lists.DomainLists.new.Goals as goal

pub add_domain-requires : goal.add_domain-requires
add_domain-requires c x there =
    let net = network c.args.topo.now in
    let law = domain_law net c.loop-k.k c.args.topo.now.is_network (omega arith) in
    omega (
      arith,
      has_within (length net.devices) (domain_of net c.loop-k.k).devices x law.devices_within
          (subst (λ xs. has xs x ≡ true) c.domain_devices.ensures there),
      c.loop-k.invariant.device_count,
      ap length c.deref_mut.ensures.value,
    )

pub add_domain-requires-in-loop-k : goal.add_domain-requires-in-loop-k
add_domain-requires-in-loop-k c x there =
    let net = network c.args.topo.now in
    let law = domain_law net c.loop-k.k c.args.topo.now.is_network (omega arith) in
    omega (
      arith,
      has_within (length net.links) (domain_of net c.loop-k.k).links x law.links_within
          (subst (λ xs. has xs x ≡ true) c.domain_links.ensures there),
      c.loop-k.invariant.link_count,
      ap length c.deref_mut-in-loop-k.ensures.value,
    )
