-- By how much the numbers of a history are greater than those of an opening, as their messages and their devices tell: the shift that the command takes.
use Rattle.std.specs.Prelude.{◌≡◌, ℕ, zero, suc, ◌-◌, Bool, List, length, nat_eq, Option, Some, None, option_map, option_and_then, if◌then◌else◌}
use Rattle.sd_plan.specs.topo.Network.{Network}
use Rattle.sd_plan.specs.declared.Plan.{Plan}
use Rattle.sd_device.specs.declared.msg.Stamp.{Stamp}
use Rattle.sd_device.specs.declared.registers.Registers.{Registers}
use Rattle.sd_device.specs.contracts.device.DeviceNode.TheImpl.{ghosts as device}
use Rattle.sd_history.specs.World.{setting_over, is_up}
use Rattle.sd_history.specs.Steps.{seen_of, flight_count}
use Rattle.sd_history.specs.Nodes.{NodeStep, steps_of, node_in}
use Rattle.sd_world.specs.world.Registers.{up_at}
use Rattle.sd_fleet.specs.Nodes.{node_at}
use Rattle.sd_fleet.specs.Standing.{StandsFor}
use Rattle.sd_resume.specs.law.Shifts.{Shift}
use Rattle.sd_resume.specs.law.Law.{whole}
use Rattle.sd_resume.specs.Fleets.{DeviceFleet, world_of}

-- what a device tells: its stamp, where it is up and follows a plan
abbrev pub stamp_told : (up : Bool) → Option Registers → Option Stamp
stamp_told up node = if up then option_and_then (λ r. option_map (λ duty. r.stamp) r.duty) node else None

-- The shift by the stamps of one device. The rounds of term 0 of the opening are counted on, and those of later terms have their numbers.
abbrev pub with_stamps : Shift → (one other : Stamp) → Shift
with_stamps shift one other =
    record {
      plans = shift.plans;
      messages = shift.messages;
      term = one.term - other.term;
      round = if nat_eq other.term 0 then one.round - other.round else shift.round;
    }

-- where a device tells a stamp in both
abbrev pub with_told : Shift → (one other : Option Stamp) → Shift
with_told shift (Some one) (Some other) = with_stamps shift one other
with_told shift (Some one) None = shift
with_told shift None other = shift

-- by what the first devices tell: where two of them do not agree, the later one counts
abbrev pub shift_told : (plans messages : ℕ) → (one other : ℕ → Option Stamp) → (devices : ℕ) → Shift
shift_told plans messages one other zero = record { plans = plans; messages = messages; term = 0; round = 0 }
shift_told plans messages one other (suc d) = with_told (shift_told plans messages one other d) (one d) (other d)

-- what a device tells after a run
abbrev pub stamp_in : List (NodeStep Registers) → ℕ → Option Stamp
stamp_in run d = stamp_told (is_up (seen_of (steps_of run)) d) (node_in run d)

-- The shift between two runs: the plans that the second leaves out, the messages that the first has sent, and the term and round that devices tell.
abbrev pub shift_between : Network → (front : List Plan) → (one other : List (NodeStep Registers)) → Shift
shift_between net front one other =
    shift_told (length front) (flight_count (steps_of one)) (stamp_in one) (stamp_in other) (length net.devices)

-- the same of what fleets keep
abbrev pub stamp_at : DeviceFleet → ℕ → Option Stamp
stamp_at fleet d = stamp_told (up_at (world_of fleet) d) (node_at fleet.nodes.items d)

-- of any two runs for which the fleets stand it is the shift between them
abbrev pub IsTold : (first second : DeviceFleet) → (left : ℕ) → Shift → Type 0
IsTold first second left shift =
    (net : Network) (front plans : List Plan) (one other : List (NodeStep Registers)) → length front ≡ left
    → StandsFor device first (whole net front plans) one → StandsFor device second (setting_over net plans) other
    → shift ≡ shift_between net front one other
