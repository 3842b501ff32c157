-- The plans of a command: each is read and judged before the next, and what is written where one of them is refused.
use Rattle.std.specs.Prelude.{◌≡◌, ℕ, ◌+◌, List, [], ◌∷◌, ◌++◌, Option, None, Some, Result, Ok, Err}
use Rattle.sd_plan.specs.topo.Network.{Network}
use Rattle.sd_plan.specs.declared.Plan.{Plan}
use Rattle.sd_checker.specs.Text.{refused_line}
use Rattle.sd_checker.specs.Verdicts.{IsVerdict}
use Rattle.sd_checker.specs.declared.Verdict.{Verdict}
use Rattle.sd_checker.specs.declared.Verdict.TheVariants.{Accepted, Refused}
use Rattle.sd_files.specs.Answering.{Allowed, After}
use Rattle.sd_files.specs.Inputs.{plan_in_file}
use Rattle.sd_files.specs.declared.Status.TheVariants.{PlanRefused}
use Rattle.sd_files.specs.declared.command_error.Refusal.{Refusal}

-- the line of a plan's breach, or what may be written where it is accepted
abbrev pub AfterVerdict : Network → (place : ℕ) → Verdict → Allowed → Allowed
AfterVerdict net place Accepted Then bytes status = Then bytes status
AfterVerdict net place (Refused breach) Then bytes status = (bytes ≡ refused_line net place breach) × (status ≡ PlanRefused)

-- a plan is judged: the one at this place of the command, from 1
abbrev pub AfterJudged : Network → (place : ℕ) → Plan → Allowed → Allowed
AfterJudged net place plan Then bytes status = (verdict : Verdict) × IsVerdict net plan verdict × AfterVerdict net place verdict Then bytes status

-- its text is read, and then it is judged
abbrev pub AfterPlan : Network → (place : ℕ) → List ℕ → (Plan → Allowed) → Allowed
AfterPlan net place text Then bytes status = After (plan_in_file net place text) (λ plan. AfterJudged net place plan (Then plan)) bytes status

-- the texts of plans are read and judged one after the other, from this place on, after the plans that were accepted
abbrev pub AfterPlans : Network → (place : ℕ) → List Plan → List (List ℕ) → (List Plan → Allowed) → Allowed
AfterPlans net place plans [] Then bytes status = Then plans bytes status
AfterPlans net place plans (text ∷ texts) Then bytes status =
    AfterPlan net place text (λ plan. AfterPlans net (place + 1) (plans ++ plan ∷ []) texts Then) bytes status

-- all of them, from the first
abbrev pub AfterAllPlans : Network → List (List ℕ) → (List Plan → Allowed) → Allowed
AfterAllPlans net texts Then bytes status = AfterPlans net 1 [] texts Then bytes status

-- the texts say these plans, from this place on
abbrev pub AreRead : Network → (place : ℕ) → List (List ℕ) → List Plan → Type 0
AreRead net place [] [] = Unit {0}
AreRead net place (text ∷ texts) (plan ∷ plans) = (plan_in_file net place text ≡ Ok plan) × AreRead net (place + 1) texts plans
AreRead net place _ _ = ⊥

-- the plan in front of the others, where all were read
abbrev pub in_front : Plan → Option (List Plan) → Option (List Plan)
in_front plan None = None
in_front plan (Some plans) = Some (plan ∷ plans)

-- the plan in front of the others, where it and they were read
abbrev pub with_plan : Result Plan Refusal → Option (List Plan) → Option (List Plan)
with_plan (Ok plan) plans = in_front plan plans
with_plan (Err why) plans = None

-- the plans that the texts say, if none of them is refused
abbrev pub plans_of : Network → (place : ℕ) → List (List ℕ) → Option (List Plan)
plans_of net place [] = Some []
plans_of net place (text ∷ texts) = with_plan (plan_in_file net place text) (plans_of net (place + 1) texts)
