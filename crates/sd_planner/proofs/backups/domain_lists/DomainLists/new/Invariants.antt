use Rattle.std.proofs.Common.{◌≡◌, length}
use Rattle.sd_plan.specs.topo.Places.{domain_of}
use Rattle.sd_plan.specs.topo.Topologies.{network}
use Rattle.sd_planner.specs.Listed.{ListUnder}
use Rattle.sd_planner.proofs.backups.domain_lists.DomainLists.new.Given as goal

abbrev pub invariant-loop-k : goal.invariant-loop-k
invariant-loop-k l =
    record {
      device_count : length l.devices.items ≡ length (network l.topo).devices;
      link_count : length l.links.items ≡ length (network l.topo).links;
      devices : ListUnder (λ k. (domain_of (network l.topo) k).devices) l.k l.devices.items;
      links : ListUnder (λ k. (domain_of (network l.topo) k).links) l.k l.links.items;
    }
