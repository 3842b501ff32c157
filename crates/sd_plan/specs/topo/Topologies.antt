-- What contracts see of a topology.
use Rattle.sd_plan.specs.topo.Network.{Network}
use Rattle.sd_plan.specs.declared.topo.topology.Topology.{Topology}

-- the datacenter that a topology stands for
abbrev pub network : Topology → Network
network topo = topo.tables
