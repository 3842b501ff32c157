-- What contracts see of the monitor of ticks.
use Rattle.std.specs.Prelude.{◌≡◌, length}
use Rattle.sd_monitors.specs.clocks.Tickings.{TickKept}
use Rattle.sd_monitors.specs.declared.clocks.tick.TickMonitor.TheInside.{Inside}

-- its fields
abbrev pub tick_kept : Inside → TickKept
tick_kept m = record { ticks = m.ticks; owed = m.owed; limit = m.limit; holds = m.holds }

-- both are by device
abbrev pub IsTickMonitor : Inside → Type 0
IsTickMonitor m = length m.ticks.states ≡ length m.owed
