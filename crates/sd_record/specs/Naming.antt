-- Which event an entry is, where the messages on their way are known.
use Rattle.std.specs.Prelude.{ℕ, Bool, ◌&&◌, List, [], ◌∷◌, nat_eq, if◌then◌else◌}
use Rattle.sd_num.specs.Lists.{map_or}
use Rattle.sd_device.specs.declared.msg.Flight.{Flight}
use Rattle.sd_sched.specs.declared.Event.{Event}
use Rattle.sd_history.specs.Steps.{Step}
use Rattle.sd_history.specs.Open.{unspent}
use Rattle.sd_record.specs.logs.Entries.{event_with, name_of}
use Rattle.sd_record.specs.declared.logs.Entry.{Entry}
use Rattle.sd_record.specs.declared.logs.MessageName.{MessageName}

-- the message has this name
abbrev pub has_name : MessageName → Flight → Bool
has_name name f =
    nat_eq f.receiver name.receiver && nat_eq f.link name.link && nat_eq f.message.epoch name.epoch && nat_eq f.message.stamp.term name.term
    && nat_eq f.message.stamp.round name.round

-- the number of the last of these messages that has the name, and the one before them where none has it
abbrev pub last_named : MessageName → (before : ℕ) → List Flight → ℕ
last_named name before [] = before
last_named name before (f ∷ fs) = last_named name (if has_name name f then f.number else before) fs

-- the number of the last message on its way that has the name; 0, which no message has, where none has it
abbrev pub number_named : MessageName → List Step → ℕ
number_named name steps = last_named name 0 (unspent steps 0)

-- the event of an entry after these steps
abbrev pub event_in : List Step → Entry → Event
event_in steps entry = event_with entry (map_or (name_of entry) 0 (λ name. number_named name steps))
