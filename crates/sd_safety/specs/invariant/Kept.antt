-- The induction: each kind of event keeps the invariant, so it holds after each event of a steady history, and from it follow no loop and at
-- most one root.
use Rattle.std.specs.Prelude.{◌≡◌, ℕ, ◌≤◌, Bool, true, false, List, ◌∷◌, length, None}
use Rattle.sd_num.specs.Lists.{map_or}
use Rattle.sd_device.specs.Calls as calls
use Rattle.sd_device.specs.Calls.{Transition, Nothing, Emitted, TookOver, Moved}
use Rattle.sd_device.specs.Words.{transition_of}
use Rattle.sd_sched.specs.declared.Event.{Event}
use Rattle.sd_sched.specs.declared.Event.TheVariants as event
use Rattle.sd_history.specs.World.{Setting}
use Rattle.sd_history.specs.Steps.{Step}
use Rattle.sd_history.specs.Chronicle.{past_in, chronicle}
use Rattle.sd_history.specs.Lines.{first_on_loop, roots}
use Rattle.sd_safety.specs.invariant.Invariant.{Core, Invariant, AtEach}
use Rattle.sd_safety.specs.invariant.Clauses.{just_closed}
use Rattle.sd_safety.specs.invariant.Guarded.{AreGuarded, IsSteady}
use Rattle.sd_safety.specs.invariant.Coming.{IsFair, IsClean, IsNextEvent}

-- the core of the invariant holds after the event, wherever it comes
abbrev pub Keeps : Setting → Event → Type 0
Keeps setting e = (history : List Event) → IsNextEvent setting history e → Core setting (chronicle setting (e ∷ history))

-- what a tick makes the device do
abbrev pub transition_of_tick : List Step → ℕ → ℕ → Transition
transition_of_tick steps d counter = map_or (past_in steps d) Nothing (λ past. transition_of past (calls.Tick counter))

-- the same where the tick makes the device do this
abbrev pub KeepsTick : Setting → Transition → Type 0
KeepsTick setting transition =
    (reference d counter : ℕ) (history : List Event) → IsNextEvent setting history (event.Tick reference d counter)
    → transition_of_tick (chronicle setting history) d counter ≡ transition
    → Core setting (chronicle setting (event.Tick reference d counter ∷ history))

-- the same of a seal with which the window closes, or stays open
abbrev pub KeepsSeal : Setting → Bool → Type 0
KeepsSeal setting closes =
    (reference d : ℕ) (history : List Event) → IsNextEvent setting history (event.Seal reference d)
    → just_closed (chronicle setting (event.Seal reference d ∷ history)) ≡ closes
    → Core setting (chronicle setting (event.Seal reference d ∷ history))

-- every kind of event keeps the core of the invariant
pub record EachKeeps (setting : Setting) : Type 0 where
  pub start : (reference d counter clock eps : ℕ) → Keeps setting (event.Start reference d counter clock eps)
  pub tick_quiet : KeepsTick setting Nothing
  pub tick_emits : KeepsTick setting Emitted
  pub tick_moves : KeepsTick setting Moved
  pub tick_takes_over : KeepsTick setting TookOver
  pub receive : (reference d counter message : ℕ) → Keeps setting (event.Recv reference d counter message)
  pub lose : (reference message : ℕ) → Keeps setting (event.Lose reference message)
  pub fail_device : (reference d : ℕ) → Keeps setting (event.FailDevice reference d)
  pub fail_link : (reference l : ℕ) → Keeps setting (event.FailLink reference l)
  pub fix : (reference d counter clock eps : ℕ) → Keeps setting (event.Fix reference d counter clock eps)
  pub ask : (reference d counter : ℕ) → Keeps setting (event.Ask reference d counter)
  pub stage : (reference : ℕ) → Keeps setting (event.Stage reference)
  pub give : (reference d : ℕ) → Keeps setting (event.Give reference d)
  pub commit : (reference d counter : ℕ) → Keeps setting (event.Commit reference d counter)
  pub seal : KeepsSeal setting false
  pub seal_closes : KeepsSeal setting true
  pub join : (reference d counter clock eps : ℕ) → Keeps setting (event.Join reference d counter clock eps)
  pub mend_device : (reference d : ℕ) → Keeps setting (event.MendDevice reference d)
  pub mend_link : (reference l : ℕ) → Keeps setting (event.MendLink reference l)
  pub ends : (reference : ℕ) → Keeps setting (event.End reference)

-- the invariant holds after each event of a steady history
abbrev pub StaysInvariant : Setting → Type 0
StaysInvariant setting = (history : List Event) → AreGuarded setting → IsSteady setting history → AtEach (Invariant setting) (chronicle setting history)

-- no loop of live devices, and at most one acts
pub record IsSafe (setting : Setting) (steps : List Step) : Type 0 where
  pub loop : first_on_loop setting steps ≡ None
  pub root : length (roots setting steps) ≤ 1

-- the invariant gives it, in a steady history
abbrev pub InvariantIsSafe : Setting → Type 0
InvariantIsSafe setting =
    (e : Event) (history : List Event) → AreGuarded setting → IsSteady setting (e ∷ history) → Invariant setting (chronicle setting (e ∷ history))
    → IsSafe setting (chronicle setting (e ∷ history))

-- at all times, renewals among them, in a history of any length: under plans that meet five conditions, while the premises but start hold
abbrev pub AlwaysSafe : Setting → Type 0
AlwaysSafe setting = (history : List Event) → AreGuarded setting → IsSteady setting history → IsSafe setting (chronicle setting history)

-- so under accepted plans, while no premise is broken
abbrev pub StaysSafe : Setting → Type 0
StaysSafe setting = (history : List Event) → IsFair setting → IsClean setting history → IsSafe setting (chronicle setting history)
