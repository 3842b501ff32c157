-- What less slack keeps: plans stay accepted, and no bound of the drill rises.
use Rattle.std.specs.Prelude.{◌≡◌, ℕ, ◌<◌, ◌≤◌, List, length, Option, Some}
use Rattle.sd_plan.specs.topo.Network.{Network}
use Rattle.sd_plan.specs.topo.Limits.{IsNetwork}
use Rattle.sd_plan.specs.declared.domain.DomainId.{DomainId}
use Rattle.sd_plan.specs.declared.Plan.{Plan}
use Rattle.sd_checker.specs.Conditions.{IsAccepted}
use Rattle.sd_drill.specs.Drill.{IsWorst}
use Rattle.sd_drill.specs.Bounds.{AreBounds, bound_at}
use Rattle.sd_drill.specs.declared.Budget.{Budget}
use Rattle.sd_bound.specs.slack.Tighter.{IsTighter, IsSameDomain}

-- a plan that is accepted is accepted with less slack, too
abbrev pub StaysAccepted : Network → Network → Type 0
StaysAccepted before after = IsTighter before after → (plan : Plan) → IsAccepted before plan → IsAccepted after plan

-- a device that has a bound under a domain has one with less slack, too, and it is no greater
abbrev pub NoBoundRises : Network → Network → Type 0
NoBoundRises before after =
    IsTighter before after → (plan : Plan) (budget : Budget) (f g : DomainId) → IsSameDomain before f after g → (d w : ℕ)
    → IsWorst before plan budget f d w → (v : ℕ) × IsWorst after plan budget g d v × (v ≤ w)

-- the same of what the drill lists for the devices of the two topologies
abbrev pub NoListedBoundRises : Network → Network → Type 0
NoListedBoundRises before after =
    IsTighter before after → (plan : Plan) (budget : Budget) (f g : DomainId) → IsSameDomain before f after g → (bounds others : List (Option ℕ))
    → AreBounds before plan budget f bounds → AreBounds after plan budget g others → (d : ℕ) → d < length before.devices → (w : ℕ)
    → bound_at bounds d ≡ Some w → (v : ℕ) × (bound_at others d ≡ Some v) × (v ≤ w)

-- and a device that has no bound gets none by less slack
abbrev pub NoBoundAppears : Network → Network → Type 0
NoBoundAppears before after =
    IsTighter before after → IsNetwork before → (plan : Plan) (budget : Budget) (f g : DomainId) → IsSameDomain before f after g
    → (d : ℕ) → d < length before.devices → (v : ℕ) → IsWorst after plan budget g d v → (w : ℕ) × IsWorst before plan budget f d w
