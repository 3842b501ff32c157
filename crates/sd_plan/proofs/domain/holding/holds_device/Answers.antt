use Rattle.std.proofs.Common.{subst}
use Rattle.sd_plan.specs.topo.Topologies.{network}
use Rattle.sd_plan.specs.domain.Lone.{IsDomain}
use Rattle.sd_plan.specs.declared.domain.DomainId.TheVariants as domain
use Rattle.sd_plan.proofs.domain.Things.{listed_ascend}
use Rattle.sd_plan.proofs.domain.holding.holds_device.Goals as goal

pub contains-requires : goal.contains-requires
contains-requires c =
    let within : IsDomain (network c.args.topo.now) (domain.Listed c.in-Listed.k) = subst (IsDomain (network c.args.topo.now)) c.in-Listed.is c.requires in
    rw c.domain_devices.ensures (listed_ascend (network c.args.topo.now) c.in-Listed.k c.args.topo.now.is_network within).0
