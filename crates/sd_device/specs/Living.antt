-- A life of a device: its making, and its calls since then.
use Rattle.std.specs.Prelude.{List}
use Rattle.sd_device.specs.Calls.{Making, Call}

-- the life of a device: its making, and its calls so far, the newest first
pub record Life : Type 0 where
  pub making : Making
  pub calls : List Call
