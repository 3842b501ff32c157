-- What an entry of a log says of its event.
use Rattle.std.specs.Prelude.{ℕ, Option, Some, None}
use Rattle.sd_sched.specs.Events.{reference_of}
use Rattle.sd_sched.specs.declared.Event.{Event}
use Rattle.sd_sched.specs.declared.Event.TheVariants.{Lose, Recv}
use Rattle.sd_record.specs.declared.logs.Entry.{Entry}
use Rattle.sd_record.specs.declared.logs.Entry.TheVariants.{Loss, Plain, Receipt}
use Rattle.sd_record.specs.declared.logs.MessageName.{MessageName}

-- the event, where the message that the entry names has this number
abbrev pub event_with : Entry → ℕ → Event
event_with (Plain e) number = e
event_with (Receipt reference counter name) number = Recv reference name.receiver counter number
event_with (Loss reference name) number = Lose reference number

-- its reference, whatever the number
abbrev pub reference_in : Entry → ℕ
reference_in (Plain e) = reference_of e
reference_in (Receipt reference counter name) = reference
reference_in (Loss reference name) = reference

-- the message that the entry names
abbrev pub name_of : Entry → Option MessageName
name_of (Plain e) = None
name_of (Receipt reference counter name) = Some name
name_of (Loss reference name) = Some name
