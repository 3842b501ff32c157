-- How the registers of a device stand for its history.
use Rattle.std.specs.Prelude.{◌≡◌, List, count_by}
use Rattle.sd_sched.specs.declared.Event.{Event}
use Rattle.sd_sched.specs.Events.{is_ask}
use Rattle.sd_commands.specs.solo.Histories.{Situation, situation, estimate_now, IsHistory}
use Rattle.sd_commands.specs.declared.solo.Solo.{Solo}

-- what the registers tell of the past
abbrev pub situation_of : Solo → Situation
situation_of device = record { reference = device.reference; counter = device.counter; started = device.started; ended = device.ended; count = device.events }

-- the device is as after these events, the newest first
pub record StandsFor (device : Solo) (events : List Event) : Type 0 where
  pub history : IsHistory events
  pub situation : situation_of device ≡ situation events
  pub estimate : device.estimate ≡ estimate_now events
  pub reports : device.reports ≡ count_by is_ask events
