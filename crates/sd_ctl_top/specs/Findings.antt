-- What `search` and `renew` of the second program write and answer for the texts of their files.
use Rattle.std.specs.Prelude.{◌≡◌, ℕ, ◌++◌, Bool, true, false, List, [], not, Option, None, Some, if◌then◌else◌}
use Rattle.sd_num.specs.Lists.{has}
use Rattle.sd_plan.specs.topo.Network.{Network}
use Rattle.sd_plan.specs.declared.Absent.{Absent}
use Rattle.sd_plan.specs.declared.Plan.{Plan}
use Rattle.sd_plantext.specs.Printed.{plan_text}
use Rattle.sd_plan.specs.Plans.{Fits, nothing_absent}
use Rattle.sd_drill.specs.declared.Budget.{Budget}
use Rattle.sd_search.specs.Finds.{IsFound, IsNoneWorse}
use Rattle.sd_search.specs.declared.found.Found.{Found}
use Rattle.sd_search.specs.declared.found.Found.TheVariants as found
use Rattle.sd_checker.specs.Text.{refused_line}
use Rattle.sd_checker.specs.declared.Breach.{Breach}
use Rattle.sd_why.specs.Reasons.{IsWhy}
use Rattle.sd_why.specs.Text.{why_text}
use Rattle.sd_why.specs.declared.Reason.{Reason}
use Rattle.sd_why.specs.declared.Reason.TheVariants as reason
use Rattle.sd_files.specs.Answering.{Allowed, After}
use Rattle.sd_files.specs.Inputs.{topology_of, plan_in_file, absent_in_file}
use Rattle.sd_files.specs.declared.Status.{Status}
use Rattle.sd_files.specs.declared.Status.TheVariants.{Done, PlanRefused}

-- why nothing was found, where nothing is absent: the first reason of the network
pub record IsWhyNone (net : Network) (absent : Absent) (why : Option Reason) : Type 0 where
  pub whole : absent ≡ nothing_absent → IsWhy net why
  pub left_out : ¬ (absent ≡ nothing_absent) → why ≡ None

-- the reason that is told with what was found
abbrev pub IsToldWith : Network → Absent → Found → Option Reason → Type 0
IsToldWith net absent (found.Plan plan) why = why ≡ None
IsToldWith net absent (found.NoPlan plan breach) why = IsWhyNone net absent why

-- the reason stands alone: without two candidates no plan has two roots, and the breach of one that has not says nothing more
abbrev pub stands_alone : Reason → Bool
stands_alone (reason.Candidates n) = true
stands_alone _ = false

-- the line of the breach of the best that there was, and that of the first reason, if one is told
abbrev pub none_text : Network → Breach → Option Reason → List ℕ
none_text net breach None = refused_line net 1 breach
none_text net breach (Some what) =
    if stands_alone what then why_text net (Some what) else refused_line net 1 breach ++ why_text net (Some what)

-- the text of a plan that was found, or the lines of why there is none
abbrev pub found_text : Network → Found → Option Reason → List ℕ
found_text net (found.Plan plan) why = plan_text net plan
found_text net (found.NoPlan plan breach) why = none_text net breach why

-- the status of what was found
abbrev pub found_status : Found → Status
found_status (found.Plan plan) = Done
found_status (found.NoPlan plan breach) = PlanRefused

-- the plan that was found, if one was, fits the network
abbrev pub FitsFound : Network → Found → Type 0
FitsFound net (found.Plan plan) = Fits net plan
FitsFound net (found.NoPlan plan breach) = Unit {0}

-- what is printed of a search without what is absent, over the root that is given or any: the text of an accepted plan, or the line of a breach, and then no
-- greedy plan is accepted either. The plan is no worse by the drill than the first greedy one that is accepted, if one is. Where nothing is absent, the breach
-- is followed by the first reason why there is no plan, just where one holds.
pub record IsFinding (net : Network) (absent : Absent) (root : Option ℕ) (budget : Budget) (bytes : List ℕ) (status : Status) : Type 0 where
  pub what : Found
  pub found : IsFound net absent root what
  pub none_worse : IsNoneWorse net absent root budget what
  pub why : Option Reason
  pub told : IsToldWith net absent what why
  pub text : bytes ≡ found_text net what why
  pub answer : status ≡ found_status what

-- `search`: an accepted plan with all that there is. There is one wherever the greedy plan from a candidate is accepted: what `plan` prints is the first's.
abbrev pub IsSearch : Budget → List ℕ → Allowed
IsSearch budget topology bytes status = After (topology_of topology) (λ net. IsFinding net (record { devices = []; links = [] }) None budget) bytes status

-- the root that goes on: the old one unless it is absent, and then the backup root
abbrev pub root_after : Plan → Absent → ℕ
root_after plan absent = if not (has absent.devices plan.root) then plan.root else plan.backup_root

-- `renew`: an accepted plan without what is absent, whose root goes on from the old plan
abbrev pub IsRenewing : Budget → List ℕ → List ℕ → List ℕ → Allowed
IsRenewing budget topology plan absent bytes status =
    After (topology_of topology)
    (λ net. After (plan_in_file net 1 plan) (λ old. After (absent_in_file net absent) (λ left. IsFinding net left (Some (root_after old left)) budget))) bytes status
