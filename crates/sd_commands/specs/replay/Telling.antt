-- What is kept of the reports for commit wait, and what is written for the latest of them.
use Rattle.std.specs.Prelude.{◌≡◌, ℕ, ◌-◌, List, [], ◌∷◌, length, Option, None, Some}
use Rattle.sd_num.specs.Lists.{map_or}
use Rattle.sd_plan.specs.topo.Network.{Network}
use Rattle.sd_device.specs.msg.Observed.{ReportAt}
use Rattle.sd_history.specs.Text.{device_name}
use Rattle.sd_replay.specs.wait.Printed.{bytes_at}
use Rattle.sd_replay.specs.wait.Standing.{StandsFor}
use Rattle.sd_commands.specs.declared.replay.observer.WaitObserver.{WaitObserver}

-- the device of the latest report, which is the last
abbrev pub latest_device : List ReportAt → Option ℕ
latest_device [] = None
latest_device (x ∷ []) = Some x.device
latest_device (x ∷ y ∷ others) = latest_device (y ∷ others)

-- commit wait stands for the reports, and the device of the latest one is kept
pub record IsTold (kept : WaitObserver) (told : List ReportAt) : Type 0 where
  pub waits : StandsFor kept.waits told
  pub device : kept.device ≡ latest_device told

-- the name of the device of the latest report
abbrev pub latest_name : Network → List ReportAt → List ℕ
latest_name net told = map_or (latest_device told) [] (device_name net)

-- the lines of commit wait of the latest report
abbrev pub latest_waits : Network → List ReportAt → List ℕ
latest_waits net told = bytes_at told (length told - 1) (latest_name net told)
