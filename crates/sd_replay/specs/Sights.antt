-- What the premises are shown of an event.
use Rattle.std.specs.Prelude.{◌≡◌, List}
use Rattle.sd_device.specs.declared.msg.Flight.{Flight}
use Rattle.sd_sched.specs.declared.Event.{Event}
use Rattle.sd_history.specs.World.{Seen}
use Rattle.sd_fleet.specs.declared.Outcome.{Outcome}
use Rattle.sd_fleet.specs.declared.messages.Sent.{Sent}

-- the event, what came of it, and the flights that it sent and that reach
abbrev pub sight_by : Event → Outcome → List Flight → Seen
sight_by e outcome sent =
    record { event = e; taken = outcome.taken; sent = sent; activated = outcome.activated; acted = outcome.acted; closed = outcome.closed }

-- the messages are those of the outcome
pub record AreSentBy (messages : Sent) (outcome : Outcome) : Type 0 where
  pub first : outcome.first_sent ≡ messages.first
  pub count : outcome.sent ≡ messages.count
