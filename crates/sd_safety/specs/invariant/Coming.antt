-- What each step of the proof is given: a steady history over guarded plans, with an event more, and the invariant after each event before that one.
-- And what the theorem on replayed histories is given: accepted plans, and a history in which no premise is broken.
use Rattle.std.specs.Prelude.{◌≤◌, List, ◌∷◌, length, IsTrue, ℕ}
use Rattle.sd_plan.specs.topo.Network.{Each}
use Rattle.sd_plan.specs.topo.Limits.{IsNetwork}
use Rattle.sd_plan.specs.Plans.{Fits}
use Rattle.sd_checker.specs.Conditions.{IsAccepted}
use Rattle.sd_sched.specs.declared.Event.{Event}
use Rattle.sd_sched.specs.Events.{reference_of}
use Rattle.sd_history.specs.World.{Setting}
use Rattle.sd_history.specs.Steps.{Step, seen_of}
use Rattle.sd_history.specs.Chronicle.{chronicle, IsHistory}
use Rattle.sd_history.specs.Premises.{all_hold}
use Rattle.sd_safety.specs.invariant.Guarded.{AreGuarded, IsSteady}
use Rattle.sd_safety.specs.invariant.Invariant.{Invariant, AtEach}

-- a topology as a text can say it, and at least one plan, each of which fits it and is accepted
pub record IsFair (setting : Setting) : Type 0 where
  pub network : IsNetwork setting.net
  pub some_plan : 1 ≤ length setting.plans
  pub fit : Each (Fits setting.net) setting.plans
  pub accepted : Each (IsAccepted setting.net) setting.plans

-- a history in which no premise is broken
pub record IsClean (setting : Setting) (history : List Event) : Type 0 where
  pub is : IsHistory setting history
  pub premises : IsTrue (all_hold setting (seen_of (chronicle setting history)))

-- the event comes after the history, and the invariant holds after each event before
pub record IsNextEvent (setting : Setting) (history : List Event) (e : Event) : Type 0 where
  pub fair : AreGuarded setting
  pub clean : IsSteady setting (e ∷ history)
  pub before : AtEach (Invariant setting) (chronicle setting history)

-- what is said of the state before an event and the event's reference, at each event that comes so
abbrev pub AtNext : (Setting → List Step → ℕ → Type 0) → Setting → Type 0
AtNext Says setting = (history : List Event) (e : Event) → IsNextEvent setting history e → Says setting (chronicle setting history) (reference_of e)
