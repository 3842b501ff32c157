-- The network and the absent list of what is present.
use Rattle.sd_plan.specs.topo.Network.{Network}
use Rattle.sd_plan.specs.topo.Topologies.{network}
use Rattle.sd_plan.specs.declared.Absent.{Absent}
use Rattle.sd_planner.specs.declared.present.Present.{Present}

-- the network of what is present
abbrev pub net_of : Present → Network
net_of present = network present.topo.now

-- the absent list of what is present
abbrev pub left_out : Present → Absent
left_out present = present.absent.now
