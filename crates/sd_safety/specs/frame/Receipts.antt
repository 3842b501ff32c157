-- Receipts, by what they make the device do; and what a receipt of the backup root on its primary asks of the devices above it (C6).
use Rattle.std.specs.Prelude.{◌≡◌, ℕ, ◌+◌, ◌*◌, ◌≤◌, true, false, List, ◌∷◌, max}
use Rattle.sd_num.specs.Lists.{has, map_or}
use Rattle.sd_plan.specs.declared.Duty.{Duty}
use Rattle.sd_plan.specs.declared.Edge.{Edge}
use Rattle.sd_plan.specs.Plans.{is_root}
use Rattle.sd_device.specs.Calls as calls
use Rattle.sd_device.specs.Calls.{Transition, Nothing, Accepted, Entered}
use Rattle.sd_device.specs.Words.{transition_of}
use Rattle.sd_sched.specs.declared.Event.{Event}
use Rattle.sd_sched.specs.declared.Event.TheVariants as event
use Rattle.sd_history.specs.World.{Setting}
use Rattle.sd_history.specs.Steps.{Step, flight_numbered}
use Rattle.sd_history.specs.Chronicle.{past_in, chronicle}
use Rattle.sd_safety.specs.invariant.Bounds.{depth, delay, tick_gap}
use Rattle.sd_safety.specs.invariant.Eras.{plan_now, is_old, heard_at}
use Rattle.sd_safety.specs.invariant.Clauses.{above_backup_root, backup_root_stays}
use Rattle.sd_safety.specs.invariant.Invariant.{Core}
use Rattle.sd_safety.specs.invariant.Coming.{IsNextEvent}

-- what a receipt makes the device do
abbrev pub transition_of_receipt : List Step → ℕ → ℕ → ℕ → Transition
transition_of_receipt steps d counter message =
    map_or (flight_numbered steps message) Nothing
    (λ f. map_or (past_in steps d) Nothing (λ past. transition_of past (calls.Receive f.link f.message counter)))

-- a receipt that enters the staged plan keeps the core
abbrev pub KeepsEntering : Setting → Type 0
KeepsEntering setting =
    (reference d counter message : ℕ) (history : List Event) → IsNextEvent setting history (event.Recv reference d counter message)
    → (duty : Duty) (edge : Edge) → transition_of_receipt (chronicle setting history) d counter message ≡ Entered duty edge
    → Core setting (chronicle setting (event.Recv reference d counter message ∷ history))

-- C6 at a receipt of the backup root on its primary: the old devices above it heard at most H * D, or Q, before
abbrev pub AboveHears : Setting → Type 0
AboveHears setting =
    (reference counter message : ℕ) (history : List Event)
    → IsNextEvent setting history (event.Recv reference (plan_now setting (chronicle setting history)).backup_root counter message)
    → (edge : Edge)
    → transition_of_receipt (chronicle setting history) (plan_now setting (chronicle setting history)).backup_root counter message ≡ Accepted edge
    → backup_root_stays setting (chronicle setting history) ≡ true
    → (x : ℕ) → has (above_backup_root setting (chronicle setting history)) x ≡ true → is_root (plan_now setting (chronicle setting history)) x ≡ false
    → is_old (chronicle setting history) x ≡ true
    → reference ≤ heard_at (chronicle setting history) x + max (depth setting.net * delay setting.net) (tick_gap setting.net)
