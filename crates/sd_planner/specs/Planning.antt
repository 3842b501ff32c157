-- What the planner answers.
use Rattle.std.specs.Prelude.{ℕ}
use Rattle.sd_plan.specs.topo.Network.{Network}
use Rattle.sd_plan.specs.Plans.{Fits}
use Rattle.sd_plan.specs.declared.Absent.{Absent}
use Rattle.sd_checker.specs.Verdicts.{IsVerdict}
use Rattle.sd_checker.specs.declared.Verdict.TheVariants.{Accepted, Refused}
use Rattle.sd_planner.specs.Greedy.{IsGreedy}
use Rattle.sd_planner.specs.declared.Planned.{Planned}
use Rattle.sd_planner.specs.declared.Planned.TheVariants as planned

-- the greedy plan that the checker accepts, or the greedy plan and the breach for which it is refused
abbrev pub IsPlanned : Network → ℕ → Absent → Planned → Type 0
IsPlanned net root absent (planned.Plan plan) = IsGreedy net root absent plan × Fits net plan × IsVerdict net plan Accepted
IsPlanned net root absent (planned.NoPlan plan breach) = IsGreedy net root absent plan × Fits net plan × IsVerdict net plan (Refused breach)
