-- Where one history may be cut and another begins: what has to be compared there.
use Rattle.std.specs.Prelude.{◌≡◌, ℕ, ◌≤◌, Bool, true, not, List, length, Some}
use Rattle.sd_plan.specs.topo.Network.{Network, rates_of}
use Rattle.sd_plan.specs.declared.Plan.{Plan}
use Rattle.sd_device.specs.declared.registers.Registers.{Registers}
use Rattle.sd_device.specs.contracts.device.DeviceNode.TheImpl.{ghosts}
use Rattle.std.specs.List.{list_all, list_any}
use Rattle.sd_plan.specs.declared.topo.Thing.{Thing}
use Rattle.sd_plan.specs.domain.Things.{same_thing}
use Rattle.sd_plan.specs.Plans.{members}
use Rattle.sd_device.specs.declared.msg.Flight.{Flight}
use Rattle.sd_sched.specs.Honesty.{keeps_reading}
use Rattle.sd_history.specs.World.{Setting, Seen, setting_over, is_up, is_untouched, plan_numbered, latest_reference, latest_reading}
use Rattle.sd_history.specs.Steps.{Step, seen_of, flight_count, flight_numbered}
use Rattle.sd_history.specs.Refusals.{is_spent}
use Rattle.sd_history.specs.Premises.{all_hold, readings, latest_tick, failures_since_closing}
use Rattle.sd_history.specs.Nodes.{NodeStep, steps_of, node_in, IsRun}
use Rattle.sd_resume.specs.law.Shifts.{Shift}
use Rattle.sd_resume.specs.law.Likeness.{AreAlike}
use Rattle.sd_resume.specs.law.Views.{LooksAlike}
use Rattle.sd_resume.specs.law.Law.{whole}

-- The second is an opening for the first: it has sent no message, it looks alike, and each device that is up has like registers.
pub record IsOpening (shift : Shift) (net : Network) (front plans : List Plan) (first second : List (NodeStep Registers)) : Type 0 where
  pub behind : shift.plans ≡ length front
  pub first_runs : IsRun ghosts (whole net front plans) first
  pub second_runs : IsRun ghosts (setting_over net plans) second
  pub sent : flight_count (steps_of first) ≡ shift.messages
  pub sent_none : flight_count (steps_of second) ≡ 0
  pub seen : LooksAlike shift (seen_of (steps_of first)) (seen_of (steps_of second))
  pub devices : (d : ℕ) → is_up (seen_of (steps_of second)) d ≡ true
      → AreAlike shift (latest_reading (seen_of (steps_of second)) d) (node_in first d) (node_in second d)

-- no message up to this number is on its way: each was received, was lost, ended with its link or its receiver, or is too old
abbrev pub NoneOnItsWay : ℕ → List Step → Type 0
NoneOnItsWay last steps = (n : ℕ) (f : Flight) → n ≤ last → flight_numbered steps n ≡ Some f → is_spent steps 0 f ≡ true

-- a reading at this reference and this counter keeps the rates with each one of the device's present life
abbrev pub keeps_with : Setting → List Seen → (d reference counter : ℕ) → Bool
keeps_with setting seen d reference counter = list_all (keeps_reading (rates_of setting.net d) (reference, counter)) (readings seen d)

-- No premise of the second is broken. Of a device that is up, a later reading that keeps the rates with those of the first keeps them with its own, and its
-- latest tick is no earlier; it has made or failed each member of its first plan and each device that the first has; and the same failed since the
-- latest closing.
pub record IsHonestOpening (part : Setting) (one other : List Seen) : Type 0 where
  pub holds : all_hold part other ≡ true
  pub readings : (d reference counter : ℕ) → is_up other d ≡ true → latest_reference other ≤ reference → latest_reading other d ≤ counter
      → keeps_with part one d reference counter ≡ true → keeps_with part other d reference counter ≡ true
  pub ticks : (d : ℕ) → is_up other d ≡ true → latest_tick one d ≤ latest_tick other d
  pub members : list_all (λ d. not (is_untouched other d)) (members part.net (plan_numbered part 1)) ≡ true
  pub untouched : (d : ℕ) → is_untouched other d ≡ true → is_untouched one d ≡ true
  pub failures : (x : Thing) → list_any (same_thing x) (failures_since_closing one) ≡ list_any (same_thing x) (failures_since_closing other)
