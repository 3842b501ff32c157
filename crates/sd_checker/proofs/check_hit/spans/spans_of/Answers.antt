use Rattle.std.proofs.Common.{◌<◌, ℕ, List, length, All, sym, subst, arith}
use Rattle.sd_plan.specs.topo.Topologies.{network}
use Rattle.sd_plan.specs.domain.Lone.{IsDomain}
use Rattle.sd_plan.specs.declared.domain.DomainId.TheVariants as domain
use Rattle.sd_plan.proofs.Shared.{carried_length}
use Rattle.sd_checker.proofs.check_hit.Bounds.{carries_devices, devices_within, links_within}
use Rattle.sd_checker.proofs.check_hit.spans.spans_of.Goals as goal

pub add_below_devices-requires-clause-range : goal.add_below_devices-requires-clause-range
add_below_devices-requires-clause-range c =
    let within : IsDomain (network c.args.topo.now) (domain.Listed c.in-Listed.k) =
    subst (IsDomain (network c.args.topo.now)) c.in-Listed.is c.requires.domain in
    subst (λ (xs : List ℕ). All (λ a. a < length c.args.index.now.spans) xs) (sym c.domain_devices.ensures)
    (devices_within (network c.args.topo.now) c.args.plan.now c.args.index.now c.in-Listed.k c.args.topo.now.is_network c.requires.indexed within)

pub add_below_links-requires-clause-range : goal.add_below_links-requires-clause-range
add_below_links-requires-clause-range c =
    let within : IsDomain (network c.args.topo.now) (domain.Listed c.in-Listed.k) =
    subst (IsDomain (network c.args.topo.now)) c.in-Listed.is c.requires.domain in
    subst (λ (xs : List ℕ). All (λ l. l < length c.args.index.now.carried) xs) (sym c.domain_links.ensures)
    (links_within (network c.args.topo.now) c.args.plan.now c.args.index.now c.in-Listed.k c.args.topo.now.is_network c.requires.indexed within)

pub add_below_links-requires-clause-devices : goal.add_below_links-requires-clause-devices
add_below_links-requires-clause-devices c = carries_devices (network c.args.topo.now) c.args.plan.now c.args.index.now c.requires.indexed

pub add_below_link-requires-clause-range : goal.add_below_link-requires-clause-range
add_below_link-requires-clause-range c =
    let within : IsDomain (network c.args.topo.now) (domain.Link c.in-Link.l) = subst (IsDomain (network c.args.topo.now)) c.in-Link.is c.requires.domain in
    omega (arith, carried_length (network c.args.topo.now) c.args.plan.now c.args.index.now c.requires.indexed)

pub add_below_link-requires-clause-devices : goal.add_below_link-requires-clause-devices
add_below_link-requires-clause-devices c = carries_devices (network c.args.topo.now) c.args.plan.now c.args.index.now c.requires.indexed
