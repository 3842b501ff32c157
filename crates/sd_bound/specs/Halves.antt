-- The two halves of the bound: how uncertain an estimate was when it was set, and how old it is when it is reported. Each speaks of the state
-- after some events of a run that recovers, in which the rest of its failures may be yet to come.
use Rattle.std.specs.Prelude.{◌≡◌, ℕ, ◌+◌, ◌-◌, ◌≤◌, true, false, List, ◌∷◌, length, Some, IsTrue}
use Rattle.sd_plan.specs.topo.Network.{Network, rates_of}
use Rattle.sd_plan.specs.declared.domain.DomainId.{DomainId}
use Rattle.sd_plan.specs.declared.Plan.{Plan}
use Rattle.sd_device.specs.Calls.{Past}
use Rattle.sd_device.specs.Words.{estimate_now}
use Rattle.sd_sched.specs.declared.Event.{Event}
use Rattle.sd_sched.specs.declared.Event.TheVariants as event
use Rattle.sd_history.specs.World.{is_counted, alone}
use Rattle.sd_history.specs.Steps.{Step, seen_of, acts_in}
use Rattle.sd_history.specs.Chronicle.{past_in}
use Rattle.sd_drill.specs.ages.Ages.{ageing}
use Rattle.sd_drill.specs.recovery.Walks.{halves, IsGreatestOfWalks}
use Rattle.sd_drill.specs.declared.Budget.{Budget}
use Rattle.sd_drill.specs.Drill.{source}
use Rattle.sd_num.specs.Numbers.{low}
use Rattle.sd_checker.specs.check_reach.Reach.{Fed}
use Rattle.sd_safety.specs.invariant.Bounds.{depth}
use Rattle.sd_bound.specs.ages.Sums.{silence_at_most}
use Rattle.sd_safety.specs.messages.Moments.{Tail}
use Rattle.sd_bound.specs.Recovering.{steps_under}
use Rattle.sd_bound.specs.Steady.{RecoversSteadily}

-- the uncertainty with which the estimate of a device was set, after these steps
pub record IsBased (net : Network) (plan : Plan) (budget : Budget) (f : DomainId) (steps : List Step) (d base : ℕ) : Type 0 where
  -- of a device that acts, also once it was held as long as the budget says
  pub acting : acts_in steps d ≡ true → base + ageing (rates_of net d) budget.hold ≤ source net plan budget
  -- of each device, by the greatest sum of halves of its walks
  pub walked : (far : ℕ) → IsGreatestOfWalks net plan f d (halves net d) far → base ≤ source net plan budget + far

-- each live device has its estimate so, at any time
abbrev pub BasesHold : Network → Plan → Type 0
BasesHold net plan =
    (budget : Budget) (f : DomainId) (whole history : List Event) → RecoversSteadily net plan budget f whole → Tail history whole
    → (d : ℕ) (past : Past) → IsTrue (is_counted (alone net plan) (seen_of (steps_under net plan history)) d)
    → past_in (steps_under net plan history) d ≡ Some past
    → IsBased net plan budget f (steps_under net plan history) d (estimate_now past).base

-- A device that comes to hear again over walks of at most depth + 1 hops; the greatest sum of their halves; and an age that its counter reaches in no
-- silence.
pub record IsCovered (net : Network) (plan : Plan) (f : DomainId) (d far oldest : ℕ) : Type 0 where
  pub fed : Fed net plan f d
  pub is_far : IsGreatestOfWalks net plan f d (halves net d) far
  pub long : ℕ
  pub is_long : IsGreatestOfWalks net plan f d length long
  pub short_enough : long ≤ depth net + 1
  pub covers : (age : ℕ) → low (rates_of net d) age ≤ silence_at_most net plan → age ≤ oldest

-- where a live device that does not act is asked, its estimate is no older in its counters than an age that covers its silences
abbrev pub AgesHold : Network → Plan → Type 0
AgesHold net plan =
    (budget : Budget) (f : DomainId) (whole history : List Event) (reference d counter : ℕ) → RecoversSteadily net plan budget f whole
    → Tail (event.Ask reference d counter ∷ history) whole
    → (past : Past) → IsTrue (is_counted (alone net plan) (seen_of (steps_under net plan history)) d) → past_in (steps_under net plan history) d ≡ Some past
    → acts_in (steps_under net plan history) d ≡ false
    → (far oldest : ℕ) → IsCovered net plan f d far oldest → counter - (estimate_now past).at ≤ oldest
