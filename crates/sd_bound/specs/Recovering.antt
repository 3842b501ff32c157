-- A run that recovers: all that the bound of the drill is given of a history.
use Rattle.std.specs.Prelude.{List, IsTrue}
use Rattle.sd_plan.specs.topo.Network.{Network}
use Rattle.sd_plan.specs.topo.Limits.{IsNetwork}
use Rattle.sd_plan.specs.declared.domain.DomainId.{DomainId}
use Rattle.sd_plan.specs.declared.Plan.{Plan}
use Rattle.sd_plan.specs.Plans.{Fits}
use Rattle.sd_checker.specs.Conditions.{IsAccepted}
use Rattle.sd_sched.specs.declared.Event.{Event}
use Rattle.sd_history.specs.Steps.{Step, seen_of}
use Rattle.sd_history.specs.Chronicle.{chronicle, IsHistory}
use Rattle.sd_history.specs.Premises.{all_hold}
use Rattle.sd_history.specs.World.{alone}
use Rattle.sd_drill.specs.declared.Budget.{Budget}
use Rattle.sd_bound.specs.Bound.{no_stage, within_base, within_hold, FailsSo}

-- the steps of a history under one plan
abbrev pub steps_under : Network → Plan → List Event → List Step
steps_under net plan history = chronicle (alone net plan) history

-- A history under one accepted plan that is never renewed: no premise is broken, clocks are set within the base, acting roots hold their
-- estimates no longer than the budget says, and nothing fails or all things of one domain do so at one reference.
pub record Recovers (net : Network) (plan : Plan) (budget : Budget) (f : DomainId) (history : List Event) : Type 0 where
  pub network : IsNetwork net
  pub fits : Fits net plan
  pub accepted : IsAccepted net plan
  pub is : IsHistory (alone net plan) history
  pub premises : IsTrue (all_hold (alone net plan) (seen_of (steps_under net plan history)))
  pub unstaged : IsTrue (no_stage (seen_of (steps_under net plan history)))
  pub based : IsTrue (within_base budget (seen_of (steps_under net plan history)))
  pub held : IsTrue (within_hold budget (steps_under net plan history))
  pub failed : FailsSo net f (seen_of (steps_under net plan history))
