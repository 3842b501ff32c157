-- After a commit: an event that comes while the open window has its commit, and a reference no earlier than that of the commit.
use Rattle.std.specs.Prelude.{◌≡◌, ℕ, ◌≤◌, true, List}
use Rattle.sd_sched.specs.declared.Event.{Event}
use Rattle.sd_history.specs.World.{Setting, has_commit}
use Rattle.sd_history.specs.Steps.{seen_of}
use Rattle.sd_history.specs.Chronicle.{chronicle}
use Rattle.sd_safety.specs.invariant.Clauses.{commit_at}
use Rattle.sd_safety.specs.invariant.Coming.{IsNextEvent}

-- the open window has its commit, and the reference is no earlier than that
pub record IsAfter (setting : Setting) (history : List Event) (e : Event) (s0 : ℕ) : Type 0 where
  pub comes : IsNextEvent setting history e
  pub commit : has_commit (seen_of (chronicle setting history)) ≡ true
  pub late : commit_at (chronicle setting history) ≤ s0
