-- What nodes of other kinds than a device do at a call.
use Rattle.std.specs.Prelude.{true}
use Rattle.sd_device.specs.declared.Effect.{Effect}
use Rattle.sd_device.specs.declared.Effect.TheVariants.{Quiet, Send}
use Rattle.sd_device.specs.declared.registers.Registers.{Registers}
use Rattle.sd_device.specs.declared.registers.Mode.TheVariants.{Primary, Backup}
use Rattle.sd_device.specs.Calls.{Call, Receive}
use Rattle.sd_device.specs.Rules.{called}

-- after a message the device is sealed
abbrev pub seals_itself : Registers → Call → Registers × Effect
seals_itself r (Receive link message counter) =
    let heard = called r (Receive link message counter) in (record heard.0 { sealed = true }, heard.1)
seals_itself r call = called r call

-- the device follows its primary parent
abbrev pub back : Registers → Registers
back r = record r { mode = Primary }

-- the first way, where something is sent
abbrev pub sent_or : Registers × Effect → Registers × Effect → Registers × Effect
sent_or first second = elim first.1 [ Send message ↦ first | Quiet ↦ second ]

-- a device that moved hears a message as one that did not, where that one accepts it
abbrev pub falls_back : Registers → Call → Registers × Effect
falls_back r (Receive link message counter) =
    elim r.mode [
      | Backup ↦ sent_or (called (back r) (Receive link message counter)) (called r (Receive link message counter))
      | _ ↦ called r (Receive link message counter)
    ]
falls_back r call = called r call
