-- What the fields of a fabric stand for.
use Rattle.sd_plan.specs.topo.Topologies.{network}
use Rattle.sd_fleet.specs.Registers.{Registers, kept}
use Rattle.sd_fleet.specs.Sound.{IsSound}
use Rattle.sd_fleet.specs.declared.fabric.Fabric.TheInside.{Inside}

-- what the fields of a fabric stand for
abbrev pub registers_seen : Inside → Registers
registers_seen f = kept (network f.topology) f.membership f.book

-- the fields stand for a fabric
abbrev pub IsFabric : Inside → Type 0
IsFabric f = IsSound (registers_seen f)
