-- What a list of things that a plan leaves out meets.
use Rattle.std.specs.Prelude.{◌&&◌, length, IsTrue}
use Rattle.sd_num.specs.Lists.{ascends, all_below}
use Rattle.sd_plan.specs.topo.Network.{Network}
use Rattle.sd_plan.specs.declared.Absent.{Absent}

-- what is absent is part of the network, each list ascending
pub record IsAbsentOf (net : Network) (absent : Absent) : Type 0 where
  pub devices : IsTrue (ascends absent.devices && all_below (length net.devices) absent.devices)
  pub links : IsTrue (ascends absent.links && all_below (length net.links) absent.links)
