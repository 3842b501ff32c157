-- For which history a recorder stands, and what it has written.
use Rattle.std.specs.Prelude.{◌≡◌, ℕ, ◌≤◌, true, List, ◌++◌, Option, Some, None, Ok, Err}
use Rattle.std.specs.List.{Contains}
use Rattle.sd_plan.specs.topo.Limits.{IsNetwork}
use Rattle.sd_device.specs.declared.msg.Flight.{Flight}
use Rattle.sd_device.specs.contracts.device.DeviceNode.TheImpl.{ghosts as device}
use Rattle.sd_device.specs.declared.registers.Registers.{Registers}
use Rattle.sd_sched.specs.declared.Event.{Event}
use Rattle.sd_history.specs.World.{Setting}
use Rattle.sd_history.specs.Steps.{Step, events_of, flight_count}
use Rattle.sd_history.specs.Open.{unspent}
use Rattle.sd_history.specs.Chronicle.{chronicle}
use Rattle.sd_history.specs.Nodes.{NodeStep, steps_of}
use Rattle.sd_history.specs.flights.Flights.{sent_in_order}
use Rattle.sd_history.specs.declared.ApplyFault.{ApplyFault}
use Rattle.sd_fleet.specs.Standing as fleets
use Rattle.sd_record.specs.Endings.{Lists, named_ending}
use Rattle.sd_record.specs.Names.{flight_name, has_message, named_message}
use Rattle.sd_record.specs.Printed.{schedule_text}
use Rattle.sd_record.specs.Recorded.{Events}
use Rattle.sd_record.specs.declared.endings.Endings.{Endings}
use Rattle.sd_record.specs.declared.endings.NamedEnding.{NamedEnding}
use Rattle.sd_record.specs.declared.logs.MessageName.{MessageName}
use Rattle.sd_record.specs.declared.names.Names.{Names}
use Rattle.sd_record.specs.declared.recorder.Recorder.{Recorder}

-- the ending of each of these messages is listed whose number is at most the given one
abbrev pub AreListed : Endings → (looked : ℕ) → List Flight → Type 0
AreListed endings looked flights = (f : Flight) → Contains flights f → f.number ≤ looked → Lists endings (named_ending f)

-- each of these messages is kept by its name whose number is at most the given one
abbrev pub AreNamed : Names → (looked : ℕ) → List Flight → Type 0
AreNamed names looked flights = (f : Flight) → Contains flights f → f.number ≤ looked → has_message names (flight_name f) f.number ≡ true

-- each ending is that of one of these messages
abbrev pub AreEndingsOf : Endings → List Flight → Type 0
AreEndingsOf endings flights = (ending : NamedEnding) → Lists endings ending → (f : Flight) × Contains flights f × (named_ending f ≡ ending)

-- a message is kept by its name no longer than its ending is listed
abbrev pub HaveEndings : Names → Endings → Type 0
HaveEndings names endings = (name : MessageName) (number : ℕ) → has_message names name number ≡ true
    → (last : ℕ) × Lists endings (record { ending = record { last = last; number = number }; name = name })

-- What a recorder keeps is right after these steps. Each message that is on its way, and that it has looked at, is kept by its ending and its name.
-- What it keeps else is of messages that were sent.
pub record Keeps (recorder : Recorder) (steps : List Step) : Type 0 where
  pub looked : recorder.looked ≤ flight_count steps
  pub listed : AreListed recorder.endings recorder.looked (unspent steps 0)
  pub named : AreNamed recorder.names recorder.looked (unspent steps 0)
  pub sent : AreEndingsOf recorder.endings (sent_in_order steps)
  pub ended : HaveEndings recorder.names recorder.endings

-- Each message that it keeps by its name was sent in these steps, and can be received at the reference.
abbrev pub KeepsCurrent : Recorder → (reference : ℕ) → List Step → Type 0
KeepsCurrent recorder reference steps = (name : MessageName) (number : ℕ) → has_message recorder.names name number ≡ true
    → (f : Flight) × Contains (sent_in_order steps) f × (named_message f ≡ record { name = name; number = number }) × (reference ≤ f.last)

-- Its fleet stands for a run of these events, the newest first, and what it keeps is right of the messages that are on their way.
pub record StandsFor (recorder : Recorder) (setting : Setting) (events : List Event) : Type 0 where
  pub net : IsNetwork setting.net
  pub run : List (NodeStep Registers)
  pub fleet : fleets.StandsFor device recorder.fleet setting run
  pub happened : events_of (steps_of run) ≡ events
  pub keeps : Keeps recorder (steps_of run)

-- it has looked at each message of these events
abbrev pub HasSeenAll : Recorder → Setting → List Event → Type 0
HasSeenAll recorder setting events = flight_count (chronicle setting events) ≤ recorder.looked

-- it stands for these events, and its text has the lines of those that came since the start
pub record HoldsSince (recorder : Recorder) (setting : Setting) (start events : List Event) : Type 0 where
  pub stands : StandsFor recorder setting events
  pub text : schedule_text events ≡ schedule_text start ++ recorder.text.items

-- it stands for what came of it, with the lines since the start, or tells why it was refused
abbrev pub Came : Recorder → Setting → (start : List Event) → Events → (refused : Option ApplyFault) → Type 0
Came recorder setting start came None = (events : List Event) × (came ≡ Ok events) × HoldsSince recorder setting start events
Came recorder setting start came (Some why) = came ≡ Err why

-- whatever events the recorder stood for, this came of them
abbrev pub Becomes : (old new : Recorder) → (Setting → List Event → Events) → (refused : Option ApplyFault) → Type 0
Becomes old new f refused =
    (setting : Setting) (start events : List Event) → HoldsSince old setting start events → Came new setting start (f setting events) refused

-- the entry was recorded after the events that it stood for, and the text has the lines of what was recorded, or it is refused
abbrev pub Records : (old new : Recorder) → (Setting → List Event → Events) → (refused : Option ApplyFault) → Type 0
Records old new f refused = (setting : Setting) (events : List Event) → StandsFor old setting events → Came new setting events (f setting events) refused
