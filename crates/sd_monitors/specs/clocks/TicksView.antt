-- What contracts see of the latest ticks.
use Rattle.std.specs.Prelude.{◌^◌, ◌<◌, length}
use Rattle.sd_monitors.specs.clocks.Owing.{TicksKept}
use Rattle.sd_monitors.specs.declared.clocks.ticks.Ticks.TheInside.{Inside}

-- its fields
abbrev pub ticks_kept : Inside → TicksKept
ticks_kept t = record { states = t.states.items; first = t.first }

-- devices are numbered by 32 bits
abbrev pub AreTicks : Inside → Type 0
AreTicks t = length t.states.items < 2 ^ 32
