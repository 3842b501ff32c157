-- The neighbours of all devices.
use Rattle.std.specs.Prelude.{List, map}
use Rattle.sd_plan.specs.topo.Network.{Network, device_numbers}
use Rattle.sd_plan.specs.declared.Absent.{Absent}
use Rattle.sd_planner.specs.declared.present.Neighbour.{Neighbour}
use Rattle.sd_planner.specs.Usable.{neighbours_of}

-- the neighbours of each device
unfoldable pub all_neighbours : Network → Absent → List (List Neighbour)
all_neighbours net absent = map (neighbours_of net absent) (device_numbers net)
