-- After a commit of the backup root: an event that comes in the era of that commit, and a reference later than which the backup root acted throughout.
use Rattle.std.specs.Prelude.{◌≡◌, ℕ, ◌<◌, ◌≤◌, true, false, List, ◌∷◌}
use Rattle.sd_sched.specs.declared.Event.{Event}
use Rattle.sd_history.specs.World.{Setting, has_commit, staged_epoch, plan_numbered}
use Rattle.sd_history.specs.Steps.{seen_of, acts_in}
use Rattle.sd_history.specs.Chronicle.{chronicle}
use Rattle.sd_safety.specs.invariant.Eras.{era, plan_now, all_started}
use Rattle.sd_safety.specs.invariant.Coming.{IsNextEvent}
use Rattle.sd_safety.specs.messages.Moments.{Moment, when, IsIn}

-- the backup root is the next root, there is a commit, and later than the reference nothing is of another era
pub record IsLed (setting : Setting) (x : Event) (h : List Event) (e : Event) (s0 : ℕ) : Type 0 where
  pub comes : IsNextEvent setting (x ∷ h) e
  pub commit : has_commit (seen_of (chronicle setting (x ∷ h))) ≡ true
  pub root : (plan_numbered setting (staged_epoch (seen_of (chronicle setting (x ∷ h))))).root ≡ (plan_now setting (chronicle setting (x ∷ h))).backup_root
  pub started : all_started setting (chronicle setting (x ∷ h)) ≤ s0
  pub same : (q : Moment) → IsIn q (chronicle setting (e ∷ x ∷ h)) → s0 < when q → era q.earlier ≡ era (chronicle setting (x ∷ h))
  pub acts : (q : Moment) → IsIn q (chronicle setting (e ∷ x ∷ h)) → s0 < when q → has_commit (seen_of q.earlier) ≡ false
      → acts_in q.earlier (plan_now setting (chronicle setting (x ∷ h))).backup_root ≡ true
