-- A network that is written again with version 2.
use Rattle.sd_plan.specs.topo.Network.{Network}

-- the same network, with version 2
abbrev pub with_version_two : Network → Network
with_version_two net = record net { version = 2 }
