-- What is promised of a record: the entries in their order, each after losses alone, and each loss at the last moment of its message.
use Rattle.std.specs.Prelude.{◌≡◌, ℕ, ◌<◌, List, [], ◌∷◌, ◌++◌, None, Ok}
use Rattle.sd_device.specs.declared.msg.Flight.{Flight}
use Rattle.sd_sched.specs.declared.Event.{Event}
use Rattle.sd_sched.specs.declared.Event.TheVariants.{Lose}
use Rattle.sd_history.specs.World.{Setting}
use Rattle.sd_history.specs.Steps.{Step}
use Rattle.sd_history.specs.Chronicle.{chronicle}
use Rattle.sd_history.specs.flights.Flights.{look_in}
use Rattle.sd_record.specs.logs.Entries.{reference_in}
use Rattle.sd_record.specs.declared.logs.Entry.{Entry}
use Rattle.sd_record.specs.Losing.{next_lost}
use Rattle.sd_record.specs.Naming.{event_in}
use Rattle.sd_record.specs.Standing.{StandsFor}
use Rattle.sd_record.specs.declared.recorder.Recorder.{Recorder}

-- the event loses a message that is on its way after these steps, at its last moment, which is before the reference
pub record IsLoss (reference : ℕ) (steps : List Step) (e : Event) : Type 0 where
  pub flight : Flight
  pub on_its_way : look_in steps flight.number ≡ Ok flight
  pub past : flight.last < reference
  pub is : e ≡ Lose flight.last flight.number

-- each of these events is such a loss, after those before it
abbrev pub AreLosses : Setting → (reference : ℕ) → (losses before : List Event) → Type 0
AreLosses setting reference [] before = Unit {0}
AreLosses setting reference (e ∷ earlier) before =
    AreLosses setting reference earlier before × IsLoss reference (chronicle setting (earlier ++ before)) e

-- The event of the entry came last, after losses alone. When it came, no message was on its way that could be received no more.
pub record IsRecordOf (setting : Setting) (entry : Entry) (before after : List Event) : Type 0 where
  pub losses : List Event
  pub are : AreLosses setting (reference_in entry) losses before
  pub none_left : next_lost (reference_in entry) (chronicle setting (losses ++ before)) ≡ None
  pub is : after ≡ event_in (chronicle setting (losses ++ before)) entry ∷ losses ++ before

-- the recorder stands for the record of one entry more
pub record HasRecorded (recorder : Recorder) (setting : Setting) (entry : Entry) (before : List Event) : Type 0 where
  pub after : List Event
  pub stands : StandsFor recorder setting after
  pub lawful : IsRecordOf setting entry before after
