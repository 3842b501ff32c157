-- The seven conditions on a plan, in the order in which they are asked, and a plan that meets them all.
use Rattle.std.specs.Prelude.{◌≡◌, None}
use Rattle.sd_plan.specs.topo.Network.{Network, Each}
use Rattle.sd_plan.specs.domain.Domains.{domains}
use Rattle.sd_plan.specs.declared.domain.DomainId.{DomainId}
use Rattle.sd_plan.specs.declared.Plan.{Plan}
use Rattle.sd_plan.specs.Structure.{structure_breach, ancestor_breach}
use Rattle.sd_checker.specs.check_root.Timing.{timing_breach}
use Rattle.sd_checker.specs.check_root.Roots.{root_breach}
use Rattle.sd_checker.specs.check_loop.Loops.{HasNoCycle}
use Rattle.sd_checker.specs.check_reach.Reach.{DomainHolds, ReachHolds}

-- the seven conditions on a plan
pub data Condition : Type 0 where
  structure : Condition
  ancestor : Condition
  timing : Condition
  root : Condition
  loop : Condition
  domain : Condition
  reach : Condition

-- something holds of each domain
abbrev pub OfEachDomain : Network → (DomainId → Type 0) → Type 0
OfEachDomain net P = Each P (domains net)

-- the root condition holds under the domain
abbrev pub RootHolds : Network → Plan → DomainId → Type 0
RootHolds net plan f = root_breach net plan f ≡ None

-- the plan meets the conditions that safety uses, each by its name

abbrev pub MeetsStructure : Network → Plan → Type 0
MeetsStructure net plan = structure_breach net plan ≡ None

abbrev pub MeetsAncestor : Network → Plan → Type 0
MeetsAncestor net plan = ancestor_breach net plan ≡ None

abbrev pub MeetsTiming : Network → Plan → Type 0
MeetsTiming net plan = timing_breach net plan ≡ None

abbrev pub MeetsRoot : Network → Plan → Type 0
MeetsRoot net plan = OfEachDomain net (RootHolds net plan)

abbrev pub MeetsLoop : Network → Plan → Type 0
MeetsLoop net plan = OfEachDomain net (HasNoCycle net plan)

-- the plan meets the condition
abbrev pub Holds : Network → Plan → Condition → Type 0
Holds net plan structure = MeetsStructure net plan
Holds net plan ancestor = MeetsAncestor net plan
Holds net plan timing = MeetsTiming net plan
Holds net plan root = MeetsRoot net plan
Holds net plan loop = MeetsLoop net plan
Holds net plan domain = OfEachDomain net (DomainHolds net plan)
Holds net plan reach = OfEachDomain net (ReachHolds net plan)

-- the plan meets all conditions
pub record IsAccepted (net : Network) (plan : Plan) : Type 0 where
  pub structure : Holds net plan structure
  pub ancestor : Holds net plan ancestor
  pub timing : Holds net plan timing
  pub root : Holds net plan root
  pub loop : Holds net plan loop
  pub domain : Holds net plan domain
  pub reach : Holds net plan reach
