-- What the fields of a world stand for.
use Rattle.std.specs.Prelude.{◌≤◌}
use Rattle.sd_world.specs.world.Registers.{Registers}
use Rattle.sd_world.specs.declared.world.World.TheInside.{Inside}

-- the registers that the fields stand for
abbrev pub registers_seen : Inside → Registers
registers_seen w =
    record {
      devices = w.devices.items;
      failed_links = w.failed_links.items;
      reference = w.reference;
      events = w.events;
      ended = w.ended;
      window = w.window;
      windows = w.windows;
      epoch = w.epoch;
    }

-- an event opens at most one window, so that their number has room while that of the events has
abbrev pub IsWorld : Inside → Type 0
IsWorld w = w.windows ≤ w.events
