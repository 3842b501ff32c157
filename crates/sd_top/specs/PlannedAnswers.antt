-- What is written of what the planner answers.
use Rattle.std.specs.Prelude.{ℕ, List}
use Rattle.sd_plan.specs.topo.Network.{Network}
use Rattle.sd_plan.specs.declared.Plan.{Plan}
use Rattle.sd_checker.specs.declared.Verdict.TheVariants.{Accepted, Refused}
use Rattle.sd_planner.specs.declared.Planned.{Planned}
use Rattle.sd_planner.specs.declared.Planned.TheVariants as planned
use Rattle.sd_files.specs.declared.Status.{Status}
use Rattle.sd_files.specs.declared.Status.TheVariants.{Done, PlanRefused}
use Rattle.sd_top.specs.Plannings.{planned_text}

-- the text of what the planner answers
abbrev pub text_of_planned : Network → Planned → List ℕ
text_of_planned net (planned.Plan plan) = planned_text net plan Accepted
text_of_planned net (planned.NoPlan plan breach) = planned_text net plan (Refused breach)

-- the status of what the planner answers
abbrev pub status_of_planned : Planned → Status
status_of_planned (planned.Plan plan) = Done
status_of_planned (planned.NoPlan plan breach) = PlanRefused

-- the plan, if the planner has one, is such
abbrev pub IfPlan : (Plan → Type 0) → Planned → Type 0
IfPlan Holds (planned.Plan plan) = Holds plan
IfPlan Holds (planned.NoPlan plan breach) = Unit {0}
