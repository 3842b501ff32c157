-- Whether an event keeps the order of renewals, and for which lists what it is judged by stands.
use Rattle.std.specs.Prelude.{ℕ, Bool, ◌&&◌, not, List}
use Rattle.std.specs.List.{list_all}
use Rattle.sd_plan.specs.Plans.{is_member, members}
use Rattle.sd_history.specs.World.{Setting, Seen, is_up, has_entered}
use Rattle.sd_history.specs.Premises.{is_prepared, leaves_out_failed, leaves_out_cleanly, commits_orderly, seals_orderly, fails_orderly, begins_orderly}
use Rattle.sd_monitors.specs.renewal.Moments.{staged_plan, IsMomentOf}
use Rattle.sd_monitors.specs.renewal.Progressing.{ProgressStands}
use Rattle.sd_monitors.specs.renewal.Renewals.{IsPlanned}
use Rattle.sd_monitors.specs.declared.renewal.judge.Judge.{Judge}

-- the event keeps the order of renewals
abbrev pub is_orderly : Setting → Seen → List Seen → Bool
is_orderly setting s earlier = commits_orderly setting s earlier && seals_orderly setting s earlier && fails_orderly s earlier
    && begins_orderly setting s earlier

-- the device is a member of the staged plan, and not prepared
abbrev pub lacks : Setting → List Seen → ℕ → Bool
lacks setting seen d = is_member (staged_plan setting seen) d && not (is_prepared setting seen d)

-- it is a member of that plan and up, and has not entered it
abbrev pub lags : Setting → List Seen → ℕ → Bool
lags setting seen d = is_member (staged_plan setting seen) d && is_up seen d && not (has_entered seen d)

-- the members of the staged plan are prepared, and it leaves out each failed link
abbrev pub is_ready : Setting → List Seen → Bool
is_ready setting seen = list_all (is_prepared setting seen) (members setting.net (staged_plan setting seen))
    && leaves_out_failed setting seen (staged_plan setting seen)

-- and no device that is up and left out is joined to its root
abbrev pub is_met : Setting → List Seen → Bool
is_met setting seen = is_ready setting seen && leaves_out_cleanly setting seen (staged_plan setting seen)

-- what an event is judged by stands for what was seen before it
pub record IsJudgeOf (judge : Judge) (setting : Setting) (seen : List Seen) : Type 0 where
  pub moment : IsMomentOf judge.moment setting seen
  pub progress : ProgressStands judge.progress.now seen
  pub planned : IsPlanned setting seen
