-- What `plan` and `renew` write and answer for the texts of a topology, a plan and what is absent.
use Rattle.std.specs.Prelude.{◌≡◌, ℕ, List, [], Ok, if◌then◌else◌}
use Rattle.sd_num.specs.Lists.{has, at_place}
use Rattle.sd_plan.specs.topo.Network.{Network}
use Rattle.sd_plan.specs.declared.Absent.{Absent}
use Rattle.sd_plan.specs.declared.Plan.{Plan}
use Rattle.sd_plan.specs.Plans.{nothing_absent}
use Rattle.sd_plantext.specs.Printed.{plan_text as text_of_plan}
use Rattle.sd_checker.specs.Text.{refused_line}
use Rattle.sd_checker.specs.Verdicts.{IsVerdict}
use Rattle.sd_checker.specs.Conditions.{IsAccepted}
use Rattle.sd_checker.specs.declared.Verdict.{Verdict}
use Rattle.sd_checker.specs.declared.Verdict.TheVariants.{Accepted, Refused}
use Rattle.sd_planner.specs.Greedy.{IsGreedy}
use Rattle.sd_files.specs.Answering.{Allowed, After}
use Rattle.sd_files.specs.Inputs.{topology_of, plan_in_file, absent_in_file}
use Rattle.sd_files.specs.declared.Status.{Status}
use Rattle.sd_files.specs.declared.Status.TheVariants.{Done}
use Rattle.sd_top.specs.Checks.{verdict_status}

-- the text of a plan that is accepted, and the line of its breach where it is refused
abbrev pub planned_text : Network → Plan → Verdict → List ℕ
planned_text net plan Accepted = text_of_plan net plan
planned_text net plan (Refused breach) = refused_line net 1 breach

-- the greedy plan from a root without what is absent: its text, or the line of its breach
abbrev pub IsPlanning : Network → ℕ → Absent → Allowed
IsPlanning net root absent bytes status =
    (plan : Plan) × (verdict : Verdict) × IsGreedy net root absent plan × IsVerdict net plan verdict × (bytes ≡ planned_text net plan verdict)
    × (status ≡ verdict_status verdict)

-- the first candidate for the root
abbrev pub first_root : Network → ℕ
first_root net = at_place net.roots 0 0 (λ d. d)

-- `plan`: the greedy plan from the first candidate with all that there is
abbrev pub IsPlanOf : List ℕ → Allowed
IsPlanOf topology bytes status = After (topology_of topology) (λ net. IsPlanning net (first_root net) nothing_absent) bytes status

-- the root of a renewed plan: the old one, or the backup root where the old one is absent
abbrev pub renewed_root : Plan → Absent → ℕ
renewed_root plan absent = if has absent.devices plan.root then plan.backup_root else plan.root

-- `renew`: the greedy plan without what is absent
abbrev pub IsRenewal : List ℕ → List ℕ → List ℕ → Allowed
IsRenewal topology plan absent bytes status =
    After (topology_of topology)
    (λ net. After (plan_in_file net 1 plan) (λ old. After (absent_in_file net absent) (λ left. IsPlanning net (renewed_root old left) left))) bytes status

-- the greedy plan from the root without what is absent is accepted
pub record IsPlannable (net : Network) (root : ℕ) (absent : Absent) : Type 0 where
  pub plan : Plan
  pub greedy : IsGreedy net root absent plan
  pub accepted : IsAccepted net plan

-- the file of a topology whose greedy plan is accepted
pub record IsRightTopology (topology : List ℕ) : Type 0 where
  pub network : Network
  pub has_network : topology_of topology ≡ Ok network
  pub plannable : IsPlannable network (first_root network) nothing_absent

-- the files of a renewed plan that is accepted
pub record IsRightRenewal (topology plan absent : List ℕ) : Type 0 where
  pub network : Network
  pub old : Plan
  pub left : Absent
  pub has_network : topology_of topology ≡ Ok network
  pub has_plan : plan_in_file network 1 plan ≡ Ok old
  pub has_absent : absent_in_file network absent ≡ Ok left
  pub plannable : IsPlannable network (renewed_root old left) left

-- their plan is written
abbrev pub PlanCompletes : Type 0
PlanCompletes = (topology : List ℕ) → IsRightTopology topology → (bytes : List ℕ) (status : Status) → IsPlanOf topology bytes status → status ≡ Done

-- `renew` ends with Done on files that are right
abbrev pub RenewalCompletes : Type 0
RenewalCompletes = (topology plan absent : List ℕ) → IsRightRenewal topology plan absent → (bytes : List ℕ) (status : Status)
    → IsRenewal topology plan absent bytes status → status ≡ Done
