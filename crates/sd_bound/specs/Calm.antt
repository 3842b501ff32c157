-- The calm number of a device: while nothing has failed, no report of the device is above it.
use Rattle.std.specs.Prelude.{◌≡◌, ℕ, ◌≤◌, List, [], ◌∷◌, Some, IsTrue}
use Rattle.sd_plan.specs.topo.Network.{Network}
use Rattle.sd_plan.specs.topo.Limits.{IsNetwork}
use Rattle.sd_plan.specs.declared.Plan.{Plan}
use Rattle.sd_plan.specs.Plans.{Fits}
use Rattle.sd_drill.specs.Calm.{IsCalm}
use Rattle.sd_drill.specs.declared.Budget.{Budget}
use Rattle.sd_num.specs.declared.clock.Report.{Report}
use Rattle.sd_sched.specs.declared.Event.{Event}
use Rattle.sd_history.specs.World.{is_counted, alone}
use Rattle.sd_history.specs.Steps.{seen_of}
use Rattle.sd_history.specs.Chronicle.{next_step}
use Rattle.sd_history.specs.Admitted.{IsAdmitted}
use Rattle.sd_history.specs.Lines.{asked_report}
use Rattle.sd_safety.specs.invariant.Guarded.{IsGuarded, all_but_start_hold}
use Rattle.sd_bound.specs.Bound.{no_stage, within_base, within_hold, failures}
use Rattle.sd_bound.specs.Recovering.{steps_under}

-- A history of any length under one guarded plan, in which nothing is staged and nothing has failed: all premises but start hold, clocks are set within
-- the base, and acting roots hold their estimates no longer than the budget says.
pub record RunsCalmly (net : Network) (plan : Plan) (budget : Budget) (history : List Event) : Type 0 where
  pub network : IsNetwork net
  pub fits : Fits net plan
  pub guarded : IsGuarded net plan
  pub is : IsAdmitted (alone net plan) history
  pub premises : IsTrue (all_but_start_hold (alone net plan) (seen_of (steps_under net plan history)))
  pub unstaged : IsTrue (no_stage (seen_of (steps_under net plan history)))
  pub based : IsTrue (within_base budget (seen_of (steps_under net plan history)))
  pub held : IsTrue (within_hold budget (steps_under net plan history))
  pub unfailed : failures (seen_of (steps_under net plan history)) ≡ []

-- no report of a live device is above its calm number, as long as nothing has failed up to the report
abbrev pub CalmHolds : Network → Plan → Budget → Type 0
CalmHolds net plan budget =
    (d w : ℕ) → IsCalm net plan budget d w
    → (e : Event) (history : List Event) (report : Report) → RunsCalmly net plan budget (e ∷ history)
    → asked_report (next_step (alone net plan) (steps_under net plan history) e) ≡ Some (d, report)
    → IsTrue (is_counted (alone net plan) (seen_of (steps_under net plan history)) d)
    → report.eps ≤ w
