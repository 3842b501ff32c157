-- The messages of the runs of a fleet.
use Rattle.std.specs.Prelude.{◌≡◌, ℕ, ◌≤◌, Bool, true, false, nat_eq, List, Some}
use Rattle.sd_device.specs.declared.msg.Flight.{Flight}
use Rattle.sd_device.specs.declared.registers.Registers.{Registers}
use Rattle.sd_device.specs.contracts.device.DeviceNode.TheImpl.{ghosts as device}
use Rattle.sd_history.specs.World.{Setting}
use Rattle.sd_history.specs.Steps.{flight_count, flight_numbered}
use Rattle.sd_history.specs.Refusals.{is_spent}
use Rattle.sd_history.specs.Nodes.{NodeStep, steps_of}
use Rattle.sd_fleet.specs.Standing.{StandsFor}
use Rattle.sd_resume.specs.law.Cuts.{NoneOnItsWay}
use Rattle.sd_resume.specs.law.Shifts.{Shift}
use Rattle.sd_resume.specs.declared.differences.Difference.{Difference}
use Rattle.sd_resume.specs.declared.differences.Difference.TheVariants as difference
use Rattle.sd_resume.specs.Fleets.{DeviceFleet}

-- whether each run of the fleet has sent this many messages
abbrev pub HasSent : DeviceFleet → ℕ → Bool → Type 0
HasSent fleet messages is =
    (setting : Setting) (run : List (NodeStep Registers)) → StandsFor device fleet setting run → is ≡ nat_eq (flight_count (steps_of run)) messages

-- each run of the fleet has sent no fewer messages than the least, and no more than the most
abbrev pub HasSentWithin : DeviceFleet → (least most : ℕ) → Type 0
HasSentWithin fleet least most =
    (setting : Setting) (run : List (NodeStep Registers)) → StandsFor device fleet setting run
    → (least ≤ flight_count (steps_of run)) × (flight_count (steps_of run) ≤ most)

-- in each run of the fleet none of the first messages is on its way
abbrev pub HasNoneOnItsWay : DeviceFleet → ℕ → Type 0
HasNoneOnItsWay fleet messages =
    (setting : Setting) (run : List (NodeStep Registers)) → StandsFor device fleet setting run → NoneOnItsWay messages (steps_of run)

-- in each run of the fleet this message is on its way
abbrev pub IsOnItsWay : DeviceFleet → ℕ → Type 0
IsOnItsWay fleet number =
    (setting : Setting) (run : List (NodeStep Registers)) → StandsFor device fleet setting run
    → (f : Flight) × (flight_numbered (steps_of run) number ≡ Some f) × (is_spent (steps_of run) 0 f ≡ false)

-- in each run of the fleet this message was not sent or is spent
abbrev pub IsNotOnItsWay : DeviceFleet → ℕ → Type 0
IsNotOnItsWay fleet number =
    (setting : Setting) (run : List (NodeStep Registers)) → StandsFor device fleet setting run
    → (f : Flight) → flight_numbered (steps_of run) number ≡ Some f → is_spent (steps_of run) 0 f ≡ true

-- the first has sent as many messages as the shift says, of which none is on its way, and the second none
pub record MessagesAgree (shift : Shift) (first second : DeviceFleet) : Type 0 where
  pub sent : HasSent first shift.messages true
  pub sent_none : HasSent second 0 true
  pub quiet : HasNoneOnItsWay first shift.messages

-- the fleets differ in this, of their messages
abbrev pub MessagesDiffer : Shift → (first second : DeviceFleet) → Difference → Type 0
MessagesDiffer shift first second difference.Messages = HasSent first shift.messages false
MessagesDiffer shift first second difference.Sent = HasSent second 0 false
MessagesDiffer shift first second (difference.OnItsWay number) = IsOnItsWay first number
MessagesDiffer shift first second _ = ⊥
