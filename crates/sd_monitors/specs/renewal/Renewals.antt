-- For which lists the monitor of renewals stands.
use Rattle.std.specs.Prelude.{◌≡◌, ◌<◌, Bool, true, List, length}
use Rattle.sd_history.specs.World.{Setting, Seen, window_is_open, epoch_in_force}
use Rattle.sd_history.specs.Premises.{renew_holds}
use Rattle.sd_monitors.specs.renewal.Progressing.{ProgressKept, HasDevices, ProgressStands}

-- what is kept: how far the open window has come, and whether the premise holds
pub record RenewalKept : Type 0 where
  pub progress : ProgressKept
  pub holds : Bool

-- an open window brings in a plan that there is
abbrev pub IsPlanned : Setting → List Seen → Type 0
IsPlanned setting seen = window_is_open seen ≡ true → epoch_in_force seen < length setting.plans

-- what is kept stands for what was seen
pub record RenewalStands (setting : Setting) (kept : RenewalKept) (seen : List Seen) : Type 0 where
  pub holds : kept.holds ≡ renew_holds setting seen
  pub devices : HasDevices (length setting.net.devices) kept.progress
  pub progress : ProgressStands kept.progress seen
  pub planned : IsPlanned setting seen
