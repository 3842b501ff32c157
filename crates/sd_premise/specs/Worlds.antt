-- The world after an event, with which the window may close.
use Rattle.std.specs.Prelude.{if◌then◌else◌}
use Rattle.sd_history.specs.World.{Seen}
use Rattle.sd_world.specs.world.Registers.{Registers, registers_after, registers_closed}

-- the registers after an event as it was seen
abbrev pub world_after : Registers → Seen → Registers
world_after r s = if s.closed then registers_closed (registers_after r s.event) else registers_after r s.event
