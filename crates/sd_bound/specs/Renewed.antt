-- After a renewal: while nothing has failed since the latest closing and no further commit came, each member of the plan in force is up, stands where the plan
-- puts it, and hears. The plan may have come into force by any number of renewals, and much may have failed before the latest.
use Rattle.std.specs.Prelude.{◌≡◌, ℕ, ◌+◌, ◌<◌, ◌≤◌, false, true, List, [], ◌∷◌, IsTrue, Some}
use Rattle.sd_plan.specs.Plans.{is_root}
use Rattle.sd_plan.specs.topo.Network.{rates_of}
use Rattle.sd_drill.specs.ages.Ages.{IsOldest, ageing}
use Rattle.sd_device.specs.Calls.{Past}
use Rattle.sd_device.specs.Words.{estimate_now, report_at}
use Rattle.sd_sched.specs.declared.Event.{Event}
use Rattle.sd_sched.specs.declared.Event.TheVariants as event
use Rattle.sd_sched.specs.Events.{reference_of}
use Rattle.sd_history.specs.World.{Setting, is_up, has_commit, epoch_in_force, in_force}
use Rattle.sd_history.specs.Steps.{Step, seen_of, acts_in}
use Rattle.sd_history.specs.Chronicle.{past_in, chronicle}
use Rattle.sd_history.specs.Premises.{failures_since_closing}
use Rattle.sd_safety.specs.invariant.Eras.{belongs, is_old, on_primary, heard_at}
use Rattle.sd_safety.specs.invariant.Guarded.{AreGuarded, IsSteady}
use Rattle.sd_bound.specs.ages.Sums.{lag}

-- a plan was brought in, nothing has failed since, and no further commit came
pub record IsRenewed (steps : List Step) : Type 0 where
  pub renewed : 1 < epoch_in_force (seen_of steps)
  pub unfailed : failures_since_closing (seen_of steps) ≡ []
  pub uncommitted : has_commit (seen_of steps) ≡ false

-- The device is up and follows the plan in force. As the root it acts; else it is on its primary, and at the reference it has heard within A + P + H * D.
pub record IsSettledIn (setting : Setting) (steps : List Step) (reference d : ℕ) : Type 0 where
  pub up : is_up (seen_of steps) d ≡ true
  pub follows : is_old steps d ≡ true
  pub root_acts : is_root (in_force setting (seen_of steps)) d ≡ true → acts_in steps d ≡ true
  pub stays : is_root (in_force setting (seen_of steps)) d ≡ false → on_primary steps d ≡ true
  pub hears : is_root (in_force setting (seen_of steps)) d ≡ false → reference ≤ heard_at steps d + lag setting.net

-- each member of the plan in force is so, before each event
abbrev pub StaysSettled : Setting → Type 0
StaysSettled setting =
    (e : Event) (history : List Event) → AreGuarded setting → IsSteady setting (e ∷ history) → IsRenewed (chronicle setting history)
    → (d : ℕ) → IsTrue (belongs setting.net (in_force setting (seen_of (chronicle setting history))) d)
    → IsSettledIn setting (chronicle setting history) (reference_of e) d

-- So a report of a member other than the root is at most the uncertainty with which its estimate was set, and what its oscillator adds in that time.
abbrev pub ReportsAgeLittle : Setting → Type 0
ReportsAgeLittle setting =
    (reference d counter : ℕ) (history : List Event) (past : Past) → AreGuarded setting → IsSteady setting (event.Ask reference d counter ∷ history)
    → IsRenewed (chronicle setting history) → IsTrue (belongs setting.net (in_force setting (seen_of (chronicle setting history))) d)
    → is_root (in_force setting (seen_of (chronicle setting history))) d ≡ false
    → past_in (chronicle setting history) d ≡ Some past → (oldest : ℕ) → IsOldest (rates_of setting.net d) (lag setting.net) oldest
    → (report_at past counter).eps ≤ (estimate_now past).base + ageing (rates_of setting.net d) oldest
