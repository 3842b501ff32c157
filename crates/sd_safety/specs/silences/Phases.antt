-- A phase: from a reference on the era is that of the state before the event, no commit came in its window, and all members of the first plan have
-- started. And what is taken from the lemma on terms: each is of one acting life, and the root emits the newest of its epoch.
use Rattle.std.specs.Prelude.{◌≡◌, ℕ, ◌<◌, ◌≤◌, false, List, ◌∷◌}
use Rattle.sd_sched.specs.declared.Event.{Event}
use Rattle.sd_history.specs.World.{Setting, has_commit}
use Rattle.sd_history.specs.Steps.{seen_of}
use Rattle.sd_history.specs.Chronicle.{chronicle}
use Rattle.sd_safety.specs.invariant.Eras.{era, all_started}
use Rattle.sd_safety.specs.invariant.Coming.{IsNextEvent}
use Rattle.sd_safety.specs.messages.Moments.{Moment, when, IsIn}

-- later than the reference each moment is of the era, before a commit
pub record IsPhase (setting : Setting) (history : List Event) (e : Event) (s0 : ℕ) : Type 0 where
  pub comes : IsNextEvent setting history e
  pub started : all_started setting (chronicle setting history) ≤ s0
  pub same : (q : Moment) → IsIn q (chronicle setting (e ∷ history)) → s0 < when q
      → (era q.earlier ≡ era (chronicle setting history)) × (has_commit (seen_of q.earlier) ≡ false)
