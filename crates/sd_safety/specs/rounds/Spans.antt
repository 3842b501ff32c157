-- How far back a silence goes: the time later than a reference, up to an event, lies in the era, and in the window with whose closing that began, after its
-- commit.
use Rattle.std.specs.Prelude.{◌≡◌, ℕ, ◌+◌, ◌<◌, ◌≤◌, true, List, ◌∷◌}
use Rattle.sd_sched.specs.declared.Event.{Event}
use Rattle.sd_history.specs.World.{Setting, has_commit}
use Rattle.sd_history.specs.Steps.{Step, seen_of}
use Rattle.sd_history.specs.Chronicle.{chronicle}
use Rattle.sd_safety.specs.invariant.Eras.{era, all_started}
use Rattle.sd_safety.specs.invariant.Coming.{IsNextEvent}
use Rattle.sd_safety.specs.messages.Moments.{Moment, when, IsIn}

-- the moment is of the era, or of the one before, after the commit of its window
pub data IsWithin (steps : List Step) (q : Moment) : Type 0 where
  in_era : era q.earlier ≡ era steps → IsWithin steps q
  in_window : era q.earlier + 1 ≡ era steps → has_commit (seen_of q.earlier) ≡ true → IsWithin steps q

-- later than the reference each moment is within the era
pub record IsSpan (setting : Setting) (x : Event) (h : List Event) (e : Event) (s0 : ℕ) : Type 0 where
  pub comes : IsNextEvent setting (x ∷ h) e
  pub started : era (chronicle setting (x ∷ h)) ≡ 1 → all_started setting (chronicle setting (x ∷ h)) ≤ s0
  pub within : (q : Moment) → IsIn q (chronicle setting (e ∷ x ∷ h)) → s0 < when q → IsWithin (chronicle setting (x ∷ h)) q
