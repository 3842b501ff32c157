-- What a recorder notes of a message when it looks at it.
use Rattle.std.specs.Prelude.{◌≡◌, ◌⊎◌, ℕ, true, Result, Ok, Err, IfOk}
use Rattle.sd_device.specs.declared.msg.Flight.{Flight}
use Rattle.sd_device.specs.declared.msg.TakeFault.{TakeFault}
use Rattle.sd_record.specs.Endings.{Lists, named_ending}
use Rattle.sd_record.specs.Names.{flight_name, has_message, named_message}
use Rattle.sd_record.specs.declared.endings.NamedEnding.{NamedEnding}
use Rattle.sd_record.specs.declared.logs.MessageName.{MessageName}
use Rattle.sd_record.specs.declared.names.NamedMessage.{NamedMessage}
use Rattle.sd_record.specs.declared.recorder.Recorder.{Recorder}

-- a message was found, and it ends so
abbrev pub EndsSo : Result Flight TakeFault → NamedEnding → Type 0
EndsSo (Ok f) ending = named_ending f ≡ ending
EndsSo (Err why) ending = ⊥

-- a message was found, and it is this one
abbrev pub IsFound : Result Flight TakeFault → NamedMessage → Type 0
IsFound (Ok f) message = named_message f ≡ message
IsFound (Err why) message = ⊥

-- This was found under the number, and was noted if it is a message: its ending and its name. All else that was kept is kept, and nothing else is.
pub record HasNoted (number : ℕ) (found : Result Flight TakeFault) (old new : Recorder) : Type 0 where
  pub looked : new.looked ≡ number
  pub listed : IfOk found (λ f. Lists new.endings (named_ending f))
  pub named : IfOk found (λ f. has_message new.names (flight_name f) f.number ≡ true)
  pub endings : (ending : NamedEnding) → Lists old.endings ending → Lists new.endings ending
  pub names : (name : MessageName) (number' : ℕ) → has_message old.names name number' ≡ true → has_message new.names name number' ≡ true
  pub only_endings : (ending : NamedEnding) → Lists new.endings ending → Lists old.endings ending ⊎ EndsSo found ending
  pub only_names : (name : MessageName) (number' : ℕ) → has_message new.names name number' ≡ true
      → (has_message old.names name number' ≡ true) ⊎ IsFound found (record { name = name; number = number' })
  pub fleet : new.fleet ≡ old.fleet
