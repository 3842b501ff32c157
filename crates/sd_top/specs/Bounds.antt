-- What the numbers of a drill are worth: no report of a device is above the number that is printed for it.
use Rattle.std.specs.Prelude.{◌≡◌, ℕ, List, Option, Some, Ok, IfSome}
use Rattle.sd_plan.specs.topo.Network.{Network}
use Rattle.sd_plan.specs.declared.domain.DomainId.{DomainId}
use Rattle.sd_plan.specs.declared.Plan.{Plan}
use Rattle.sd_checker.specs.Conditions.{IsAccepted}
use Rattle.sd_drill.specs.Bounds.{AreBounds, bound_at}
use Rattle.sd_drill.specs.declared.Budget.{Budget}
use Rattle.sd_bound.specs.Bound.{StaysBelow}
use Rattle.sd_files.specs.Inputs.{topology_of, plan_in_file}
use Rattle.sd_files.specs.Texts.{Texts, texts_of}
use Rattle.sd_top.specs.Words.{Command, command_of}
use Rattle.sd_top.specs.Words.Command.{Drill}

-- each number that is listed for a device, of each domain, is one that its reports stay below
abbrev pub BoundsReports : Network → Plan → Budget → Type 0
BoundsReports net plan budget =
    (f : DomainId) (bounds : List (Option ℕ)) → AreBounds net plan budget f bounds
    → (d w : ℕ) → bound_at bounds d ≡ Some w → StaysBelow net plan budget f d w

-- so of the accepted plan that the texts of a drill say
abbrev pub DrillsTruly : (topology plan : List ℕ) → Budget → Type 0
DrillsTruly topology text budget =
    (net : Network) (plan : Plan) → topology_of topology ≡ Ok net → plan_in_file net 1 text ≡ Ok plan → IsAccepted net plan → BoundsReports net plan budget

-- what is promised of the numbers of a command: a drill's alone are bounds
abbrev pub KeepsBounds : Option Command → Texts → Type 0
KeepsBounds (Some (Drill topology plan budget)) texts = DrillsTruly (texts topology) (texts plan) budget
KeepsBounds _ texts = Unit {0}

-- the bounds of the words over what the shelf holds, where that is told
unfoldable pub MeetsBounds : Option (List ℕ → Option (List ℕ)) → List (List ℕ) → Type 0
MeetsBounds held words = IfSome held (λ h. KeepsBounds (command_of words) (texts_of h))
