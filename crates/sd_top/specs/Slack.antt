-- What less slack keeps: better oscillators, narrower delays, less loss or fewer listed domains take no plan away, and raise no number of a drill.
use Rattle.std.specs.Prelude.{◌≡◌, ◌≤◌, ℕ, List, Option, Some, Ok}
use Rattle.sd_plan.specs.topo.Network.{Network}
use Rattle.sd_plan.specs.declared.domain.DomainId.{DomainId}
use Rattle.sd_plan.specs.declared.Plan.{Plan}
use Rattle.sd_drill.specs.Drill.{IsListed}
use Rattle.sd_drill.specs.declared.Budget.{Budget}
use Rattle.sd_bound.specs.slack.Tighter.{IsTighter, IsSameDomain}
use Rattle.sd_files.specs.Inputs.{topology_of, plan_in_file}
use Rattle.sd_files.specs.declared.Status.{Status}
use Rattle.sd_files.specs.declared.Status.TheVariants.{Done}
use Rattle.sd_top.specs.Checks.{IsCheck}

-- the texts of two topologies, the second with less slack
pub record AreTightened (before after : List ℕ) : Type 0 where
  pub network : Network
  pub tightened : Network
  pub reads : topology_of before ≡ Ok network
  pub rereads : topology_of after ≡ Ok tightened
  pub tighter : IsTighter network tightened

-- a plan that `check` accepts over the first topology, it accepts over the second
abbrev pub SlackKeepsPlans : Type 0
SlackKeepsPlans =
    (before after plan : List ℕ) → AreTightened before after → (bytes : List ℕ) → IsCheck before plan bytes Done
    → (other : List ℕ) (status : Status) → IsCheck after plan other status → status ≡ Done

-- The text of a plan says the same over both. No number that `drill` lists over the first, for a domain that both have, is greater over the second.
abbrev pub SlackRaisesNoBound : Type 0
SlackRaisesNoBound =
    (before after text : List ℕ) (both : AreTightened before after) (plan : Plan) → plan_in_file both.network 1 text ≡ Ok plan
    → (plan_in_file both.tightened 1 text ≡ Ok plan)
    × ((budget : Budget) (f g : DomainId) → IsSameDomain both.network f both.tightened g → (d w : ℕ) → IsListed both.network plan budget f d (Some w)
    → (v : ℕ) × IsListed both.tightened plan budget g d (Some v) × (v ≤ w))
