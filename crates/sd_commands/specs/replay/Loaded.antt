-- The files of a topology and of plans that were read, and what ends a command before its schedule.
use Rattle.std.specs.Prelude.{◌≡◌, ℕ, List, Ok}
use Rattle.sd_plan.specs.topo.Network.{Each}
use Rattle.sd_checker.specs.Conditions.{IsAccepted}
use Rattle.sd_io.specs.outside.Pieces.{Pieces}
use Rattle.sd_sched.specs.declared.Event.{Event}
use Rattle.sd_history.specs.World.{Setting}
use Rattle.sd_files.specs.Answering.{AtOnce}
use Rattle.sd_files.specs.Inputs.{topology_of}
use Rattle.sd_files.specs.planfiles.PlanFiles.{AreRead}
use Rattle.sd_files.specs.work.Works.{Work, InSteps}

-- the topology and the plans were read, and each plan is accepted
pub record AreLoaded (topology : List ℕ) (plans : List (List ℕ)) (setting : Setting) : Type 0 where
  pub topology_is : topology_of topology ≡ Ok setting.net
  pub plans_are : AreRead setting.net 1 plans setting.plans
  pub accepted : Each (IsAccepted setting.net) setting.plans

-- by which writes: each step of the schedule by one, where the topology and the plans are read and accepted, and else all by one
pub record RunsInSteps (work : Setting → Work Event) (topology : List ℕ) (plans : List (List ℕ)) (schedule : List ℕ) (pieces : Pieces) : Type 0 where
  pub loaded : (setting : Setting) → AreLoaded topology plans setting → InSteps (work setting) schedule pieces
  pub ended : ((setting : Setting) → AreLoaded topology plans setting → ⊥) → AtOnce pieces
