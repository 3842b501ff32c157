-- What is said of the histories of two fleets: that the second is an opening for the first, or in what they differ.
use Rattle.std.specs.Prelude.{◌≡◌, ◌≢◌, ◌+◌, ◌||◌, true, false, List, length, Some}
use Rattle.sd_plan.specs.topo.Network.{Network}
use Rattle.sd_plan.specs.declared.Plan.{Plan}
use Rattle.sd_device.specs.declared.msg.Flight.{Flight}
use Rattle.sd_device.specs.declared.registers.Registers.{Registers}
use Rattle.sd_device.specs.contracts.device.DeviceNode.TheImpl.{ghosts as device}
use Rattle.sd_history.specs.World.{setting_over, is_up, has_failed, latest_reference, latest_reading, window_is_open, epoch_in_force}
use Rattle.sd_history.specs.Steps.{seen_of, flight_count, flight_numbered}
use Rattle.sd_history.specs.Refusals.{after_end, is_spent}
use Rattle.sd_history.specs.Nodes.{NodeStep, steps_of, node_in}
use Rattle.sd_fleet.specs.Standing.{StandsFor}
use Rattle.sd_resume.specs.law.Shifts.{Shift}
use Rattle.sd_resume.specs.law.Law.{whole}
use Rattle.sd_resume.specs.law.Cuts.{IsOpening, NoneOnItsWay}
use Rattle.sd_resume.specs.declared.differences.Difference.{Difference}
use Rattle.sd_resume.specs.declared.differences.Difference.TheVariants as difference
use Rattle.sd_resume.specs.Devices.{NodesDiffer}
use Rattle.sd_resume.specs.Fleets.{DeviceFleet}

-- The histories differ in this. Two fleets over one network never differ in their network.
abbrev pub Differs : Shift → (one other : List (NodeStep Registers)) → Difference → Type 0
Differs shift one other difference.Network = ⊥
Differs shift one other difference.Window = (window_is_open (seen_of (steps_of one)) || window_is_open (seen_of (steps_of other))) ≡ true
Differs shift one other difference.Time = latest_reference (seen_of (steps_of one)) ≢ latest_reference (seen_of (steps_of other))
Differs shift one other difference.Plan = epoch_in_force (seen_of (steps_of one)) ≢ epoch_in_force (seen_of (steps_of other)) + shift.plans
Differs shift one other difference.End = after_end (seen_of (steps_of one)) ≢ after_end (seen_of (steps_of other))
Differs shift one other difference.Messages = flight_count (steps_of one) ≢ shift.messages
Differs shift one other difference.Sent = flight_count (steps_of other) ≢ 0
Differs shift one other (difference.OnItsWay number) =
    (f : Flight) × (flight_numbered (steps_of one) number ≡ Some f) × (is_spent (steps_of one) 0 f ≡ false)
Differs shift one other (difference.Up d) = is_up (seen_of (steps_of one)) d ≢ is_up (seen_of (steps_of other)) d
Differs shift one other (difference.Failed thing) = has_failed (seen_of (steps_of one)) thing ≢ has_failed (seen_of (steps_of other)) thing
Differs shift one other (difference.Reading d) =
    (is_up (seen_of (steps_of other)) d ≡ true) × (latest_reading (seen_of (steps_of one)) d ≢ latest_reading (seen_of (steps_of other)) d)
Differs shift one other (difference.Register d register) =
    (is_up (seen_of (steps_of other)) d ≡ true)
    × NodesDiffer shift (latest_reading (seen_of (steps_of other)) d) register (node_in one d) (node_in other d)

-- this of any two runs for which the fleets stand, over one network: the second leaves out as many plans at the front as the shift says
abbrev pub OfRuns : Shift → (first second : DeviceFleet)
    → (Network → (front plans : List Plan) → (one other : List (NodeStep Registers)) → Type 0) → Type 0
OfRuns shift first second P =
    (net : Network) (front plans : List Plan) (one other : List (NodeStep Registers)) → shift.plans ≡ length front
    → StandsFor device first (whole net front plans) one → StandsFor device second (setting_over net plans) other → P net front plans one other

-- the second run is an opening for the first, of which no message is on its way, and they differ in nothing
pub record Opens (shift : Shift) (net : Network) (front plans : List Plan) (one other : List (NodeStep Registers)) : Type 0 where
  pub opening : IsOpening shift net front plans one other
  pub quiet : NoneOnItsWay shift.messages (steps_of one)
  pub same : (x : Difference) → Differs shift one other x → ⊥
