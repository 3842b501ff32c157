-- What the tables of a topology stand for.
use Rattle.std.specs.Prelude.{◌≡◌}
use Rattle.sd_plan.specs.declared.topo.topology.Tables.TheInside.{Inside}
use Rattle.sd_plan.specs.topo.Network.{Network, greatest_delay}
use Rattle.sd_plan.specs.topo.Seen.{network_seen}

-- the network that the tables stand for
abbrev pub tables_seen : Inside → Network
tables_seen t = network_seen t.parts

-- the delay that is kept is the greatest
abbrev pub AreTables : Inside → Type 0
AreTables t = t.longest_delay ≡ greatest_delay (tables_seen t)
