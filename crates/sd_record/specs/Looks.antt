-- What a look under one number tells.
use Rattle.std.specs.Prelude.{Bool, false, nat_eq, Result, Ok, Err}
use Rattle.sd_device.specs.declared.msg.Flight.{Flight}
use Rattle.sd_device.specs.declared.msg.TakeFault.{TakeFault}
use Rattle.sd_record.specs.declared.logs.MessageName.{MessageName}
use Rattle.sd_record.specs.Naming.{has_name}
use Rattle.sd_record.specs.declared.endings.Ending.{Ending}

-- a message was found, and has the name
abbrev pub is_named : MessageName → Result Flight TakeFault → Bool
is_named name (Ok f) = has_name name f
is_named name (Err e) = false

-- a message was found, and has the last moment of the ending
abbrev pub has_ending : Ending → Result Flight TakeFault → Bool
has_ending ending (Ok f) = nat_eq f.last ending.last
has_ending ending (Err e) = false
