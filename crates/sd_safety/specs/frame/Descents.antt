-- How the round came down that the backup root accepts on its primary: from device to device of its path, each of which took it from its primary
-- parent, and none of which began it but the root.
use Rattle.std.specs.Prelude.{◌≡◌, ℕ, true, false, ◌||◌, List, ◌∷◌, nat_eq, Some}
use Rattle.sd_num.specs.Lists.{has}
use Rattle.sd_plan.specs.declared.Edge.{Edge}
use Rattle.sd_plan.specs.declared.Plan.{Plan}
use Rattle.sd_plan.specs.declared.Hop as declared
use Rattle.sd_plan.specs.Plans.{is_root, primary_of}
use Rattle.sd_device.specs.declared.msg.Stamp.{Stamp}
use Rattle.sd_device.specs.declared.msg.Message.{Message}
use Rattle.sd_device.specs.declared.msg.Flight.{Flight}
use Rattle.sd_device.specs.Calls.{Accepted, Past}
use Rattle.sd_device.specs.Words.{epoch_now, has_moved, is_acting}
use Rattle.sd_sched.specs.declared.Event.{Event}
use Rattle.sd_sched.specs.declared.Event.TheVariants as event
use Rattle.sd_history.specs.World.{Setting, plan_numbered}
use Rattle.sd_history.specs.Steps.{Step, flight_numbered}
use Rattle.sd_history.specs.Chronicle.{past_in, chronicle}
use Rattle.sd_safety.specs.invariant.Eras.{era, plan_now}
use Rattle.sd_safety.specs.invariant.Clauses.{above_backup_root, backup_root_stays}
use Rattle.sd_safety.specs.invariant.Guarded.{AreGuarded, IsSteady}
use Rattle.sd_safety.specs.invariant.Coming.{IsNextEvent}
use Rattle.sd_safety.specs.invariant.Invariant.{Invariant, AtEach}
use Rattle.sd_safety.specs.messages.Moments.{Tail, Moment, IsIn, Emits}
use Rattle.sd_safety.specs.messages.Traces.{Hop}
use Rattle.sd_safety.specs.messages.Hops.{TellsParent}
use Rattle.sd_safety.specs.frame.Receipts.{transition_of_receipt}

-- at this moment the device took no such round but from its primary parent, and began none
pub record TakesFromAbove (setting : Setting) (plan : Plan) (stamp : Stamp) (epoch : ℕ) (q : Moment) (y : ℕ) : Type 0 where
  pub takes : (x : ℕ) (from : Moment) → Hop setting stamp epoch from x q y → (h : declared.Hop) → primary_of plan y ≡ Some h → h.parent ≡ x
  pub begins_none : (m : Message) → Emits q y m → m.stamp ≡ stamp → m.epoch ≡ epoch → ⊥

-- so it was of the backup root and each device above it but the root, at each moment up to the receipt
abbrev pub ComesDown : Setting → Type 0
ComesDown setting =
    (reference counter message : ℕ) (history : List Event)
    → IsNextEvent setting history (event.Recv reference (plan_now setting (chronicle setting history)).backup_root counter message)
    → (edge : Edge)
    → transition_of_receipt (chronicle setting history) (plan_now setting (chronicle setting history)).backup_root counter message ≡ Accepted edge
    → backup_root_stays setting (chronicle setting history) ≡ true
    → (f : Flight) → flight_numbered (chronicle setting history) message ≡ Some f
    → (y : ℕ) → (nat_eq y (plan_now setting (chronicle setting history)).backup_root || has (above_backup_root setting (chronicle setting history)) y) ≡ true
    → is_root (plan_now setting (chronicle setting history)) y ≡ false
    → (q : Moment) → IsIn q (chronicle setting (event.Recv reference (plan_now setting (chronicle setting history)).backup_root counter message ∷ history))
    → TakesFromAbove setting (plan_now setting (chronicle setting history)) f.message.stamp f.message.epoch q y

-- while an old backup root is on its primary, no device of its path but the root has moved or acted in the plan in force, at any event so far
abbrev pub StoodThen : Setting → Type 0
StoodThen setting =
    (history : List Event) → AreGuarded setting → IsSteady setting history → AtEach (Invariant setting) (chronicle setting history)
    → backup_root_stays setting (chronicle setting history) ≡ true
    → (y : ℕ) → (nat_eq y (plan_now setting (chronicle setting history)).backup_root || has (above_backup_root setting (chronicle setting history)) y) ≡ true
    → is_root (plan_now setting (chronicle setting history)) y ≡ false
    → (older : List Step) → Tail older (chronicle setting history) → (past : Past) → past_in older y ≡ Some past
    → epoch_now past ≡ era (chronicle setting history)
    → (has_moved past ≡ false) × (is_acting past ≡ false)

-- in each plan the link to a parent tells the parent
abbrev pub LinksTell : Setting → Type 0
LinksTell setting = (epoch : ℕ) → TellsParent (plan_numbered setting epoch)
