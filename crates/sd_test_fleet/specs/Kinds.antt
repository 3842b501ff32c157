-- What a clock that stands still reports, and what it sends.
use Rattle.std.specs.Prelude.{ℕ}
use Rattle.sd_num.specs.declared.clock.Report.{Report}
use Rattle.sd_device.specs.declared.msg.Message.{Message}
use Rattle.sd_device.specs.declared.Effect.{Effect}
use Rattle.sd_device.specs.declared.Effect.TheVariants.{Quiet, Send}
use Rattle.sd_device.specs.Calls.{Call, Tick}

-- what the clock reports
abbrev pub still : Report
still = record { clock = 7; eps = 9 }

-- it sends its report at each tick, as a message of the plan with this number
abbrev pub still_message : ℕ → Message
still_message epoch = record { epoch = epoch; stamp = record { term = 0; round = 0 }; clock = 7; eps = 9 }

-- what a call makes it send
abbrev pub still_sends : ℕ → Call → Effect
still_sends epoch (Tick counter) = Send (still_message epoch)
still_sends epoch _ = Quiet
