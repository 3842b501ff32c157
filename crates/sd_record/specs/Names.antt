-- Which messages are kept by their names, and which of them is the last one of a name.
use Rattle.std.specs.Prelude.{◌≡◌, ◌<◌, ◌≤◌, ◌-◌, ◌^◌, ℕ, Bool, true}
use Rattle.std.specs.BTreeSet.{contains}
use Rattle.sd_device.specs.declared.msg.Flight.{Flight}
use Rattle.sd_record.specs.NameOrder.{by_message}
use Rattle.sd_record.specs.declared.logs.MessageName.{MessageName}
use Rattle.sd_record.specs.declared.names.NamedMessage.{NamedMessage}
use Rattle.sd_record.specs.declared.names.Names.{Names}

-- the name of a message, as a log has it
abbrev pub flight_name : Flight → MessageName
flight_name f =
    record { receiver = f.receiver; link = f.link; epoch = f.message.epoch; term = f.message.stamp.term; round = f.message.stamp.round }

-- a message with its name
abbrev pub named_message : Flight → NamedMessage
named_message f = record { name = flight_name f; number = f.number }

-- the message of this number is kept by this name
abbrev pub has_message : Names → MessageName → ℕ → Bool
has_message names name number = contains by_message names.messages (record { name = name; number = number })

-- the message of this number has the name, and none that has it has a greater number
pub record IsLastNamed (names : Names) (name : MessageName) (number : ℕ) : Type 0 where
  pub is : has_message names name number ≡ true
  pub last : (other : ℕ) → other < 2 ^ 64 - 1 → has_message names name other ≡ true → other ≤ number
