-- What is found under the number of a message that was just sent.
use Rattle.std.specs.Prelude.{Result, Ok, Err}
use Rattle.sd_device.specs.declared.msg.Flight.{Flight}
use Rattle.sd_device.specs.declared.msg.TakeFault.{TakeFault}
use Rattle.sd_gen.specs.Drafts.{Draft, with_message}

-- a word is drawn for the message that is found
abbrev pub posted : Result Flight TakeFault → Draft → Draft
posted (Ok f) x = with_message f x
posted (Err e) x = x
