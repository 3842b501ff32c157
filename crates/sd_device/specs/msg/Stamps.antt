-- The order of messages.
use Rattle.std.specs.Prelude.{ℕ, Bool, ◌&&◌, ◌||◌, nat_eq, nat_lt}
use Rattle.sd_num.specs.declared.clock.Report.{Report}
use Rattle.sd_device.specs.declared.msg.Stamp.{Stamp}
use Rattle.sd_device.specs.declared.msg.Message.{Message}

-- the stamp of a round of a term
abbrev pub stamp : ℕ → ℕ → Stamp
stamp term round = record { term = term; round = round }

-- a is newer than b: by term, then by round
abbrev pub is_newer : Stamp → Stamp → Bool
is_newer a b = nat_lt b.term a.term || (nat_eq a.term b.term && nat_lt b.round a.round)

-- the report that a message carries
abbrev pub carried : Message → Report
carried message = record { clock = message.clock; eps = message.eps }

-- the message with this epoch and stamp that carries a report
abbrev pub message_of : ℕ → Stamp → Report → Message
message_of epoch stamp report = record { epoch = epoch; stamp = stamp; clock = report.clock; eps = report.eps }
