-- What `why` of the second program writes and answers for the text of its file, and what a reason means.
use Rattle.std.specs.Prelude.{◌≡◌, ℕ, List, Option, None, Some}
use Rattle.sd_plan.specs.topo.Network.{Network}
use Rattle.sd_files.specs.Answering.{After, Allowed}
use Rattle.sd_files.specs.Inputs.{topology_of}
use Rattle.sd_files.specs.declared.Status.{Status}
use Rattle.sd_files.specs.declared.Status.TheVariants.{Done, PlanRefused}
use Rattle.sd_why.specs.Plans.{HasNoPlanOfCandidates}
use Rattle.sd_why.specs.Reasons.{IsWhy}
use Rattle.sd_why.specs.Text.{why_text}
use Rattle.sd_why.specs.declared.Reason.{Reason}

-- the status of the first reason, or of none
abbrev pub why_status : Option Reason → Status
why_status None = Done
why_status (Some reason) = PlanRefused

-- what is printed of a network: the first reason why it has no plan, or that none is known
abbrev pub IsReason : Network → Allowed
IsReason net bytes status = (found : Option Reason) × IsWhy net found × (bytes ≡ why_text net found) × (status ≡ why_status found)

-- `why`: this of the network of the topology
abbrev pub IsReasoning : List ℕ → Allowed
IsReasoning topology bytes status = After (topology_of topology) (λ net. IsReason net) bytes status

-- where there is a reason, the checker accepts no plan that has all of the network and whose root and backup root are candidates
abbrev pub ReasonsAreRight : Type 0
ReasonsAreRight = (net : Network) (reason : Reason) → IsWhy net (Some reason) → HasNoPlanOfCandidates net
