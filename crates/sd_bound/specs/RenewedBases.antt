-- With which uncertainty estimates are set under a plan that a renewal brought in; and so the number of a drill, with nothing given of a device's own estimate.
use Rattle.std.specs.Prelude.{◌≡◌, ℕ, ◌≤◌, Bool, true, ◌&&◌, ◌||◌, not, List, [], ◌∷◌, Some, nat_le, IsTrue}
use Rattle.sd_num.specs.Lists.{map_or}
use Rattle.sd_plan.specs.declared.domain.DomainId.{DomainId}
use Rattle.sd_drill.specs.declared.Budget.{Budget}
use Rattle.sd_drill.specs.Drill.{IsWorst}
use Rattle.sd_device.specs.Calls.{Past}
use Rattle.sd_device.specs.Words.{estimate_now, report_at}
use Rattle.sd_sched.specs.declared.Event.{Event}
use Rattle.sd_sched.specs.declared.Event.TheVariants as event
use Rattle.sd_sched.specs.Events.{device_of, is_commit}
use Rattle.sd_history.specs.World.{Setting, in_force, is_counted}
use Rattle.sd_history.specs.Steps.{Step, seen_of}
use Rattle.sd_history.specs.Chronicle.{past_in, chronicle}
use Rattle.sd_safety.specs.invariant.Guarded.{AreGuarded, IsSteady}
use Rattle.sd_bound.specs.Bound.{within_base, within_hold}
use Rattle.sd_bound.specs.Halves.{IsBased}
use Rattle.sd_bound.specs.RenewedBound.{IsHitRenewed, IsHitOnce}

-- the event is no commit, or the device that commits holds an estimate that was set within the base
abbrev pub commits_so : Budget → List Step → Event → Bool
commits_so budget earlier e =
    not (is_commit e)
    || map_or (device_of e) true (λ d. map_or (past_in earlier d) true (λ past. nat_le (estimate_now past).base budget.base))

-- each commit is so: a root that took over was fixed before it brought in the next plan
abbrev pub commits_within : Budget → List Step → Bool
commits_within budget [] = true
commits_within budget (s ∷ earlier) = commits_within budget earlier && commits_so budget earlier s.seen.event

-- Clocks are set within the base, acting roots hold their estimates no longer than the budget says, and roots that commit hold one within the base.
pub record IsBudgeted (budget : Budget) (steps : List Step) : Type 0 where
  pub based : IsTrue (within_base budget (seen_of steps))
  pub held : IsTrue (within_hold budget steps)
  pub commits : IsTrue (commits_within budget steps)

-- Then the estimate of each live device was set with no more than the drill says.
abbrev pub BasesHoldRenewed : Setting → Budget → DomainId → Type 0
BasesHoldRenewed setting budget f =
    (e : Event) (history : List Event) (d : ℕ) (past : Past) → AreGuarded setting → IsSteady setting (e ∷ history)
    → IsBudgeted budget (chronicle setting history) → IsHitRenewed setting f (chronicle setting history)
    → IsTrue (is_counted setting (seen_of (chronicle setting history)) d) → past_in (chronicle setting history) d ≡ Some past
    → IsBased setting.net (in_force setting (seen_of (chronicle setting history))) budget f (chronicle setting history) d (estimate_now past).base

-- So no report of a live device is above its number of the drill by the plan in force, where things of the domain failed at one reference since the closing.
abbrev pub DrillHoldsRenewed : Setting → Budget → DomainId → Type 0
DrillHoldsRenewed setting budget f =
    (at reference d counter : ℕ) (history : List Event) (past : Past) → AreGuarded setting → IsSteady setting (event.Ask reference d counter ∷ history)
    → IsBudgeted budget (chronicle setting (event.Ask reference d counter ∷ history)) → IsHitOnce setting f at (chronicle setting history)
    → IsTrue (is_counted setting (seen_of (chronicle setting history)) d) → past_in (chronicle setting history) d ≡ Some past
    → (w : ℕ) → IsWorst setting.net (in_force setting (seen_of (chronicle setting history))) budget f d w → (report_at past counter).eps ≤ w
