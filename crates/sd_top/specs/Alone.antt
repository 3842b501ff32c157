-- What a device alone has come to, line by line.
use Rattle.std.specs.Prelude.{◌≡◌, List}
use Rattle.sd_sched.specs.declared.Event.{Event}
use Rattle.sd_commands.specs.solo.Registers.{StandsFor}
use Rattle.sd_files.specs.work.Works.{Work}
use Rattle.sd_top.specs.Schedules.{solo_work}
use Rattle.sd_top.specs.declared.solo.Alone.{Alone}

-- it does the work of `solo`, and its device stands for these events
abbrev pub IsAlone : Alone → Work Event → List Event → Type 0
IsAlone alone work events = (work ≡ solo_work) × StandsFor alone.device events
