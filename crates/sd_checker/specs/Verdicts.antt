-- A plan is accepted, or it has a first breach: what is shown of a plan that breaks a condition.
use Rattle.std.specs.Prelude.{◌≡◌, ℕ, ◌<◌, Bool, nat_lt, slice_get, Some, IsTrue}
use Rattle.sd_plan.specs.topo.Network.{Network}
use Rattle.sd_plan.specs.domain.Domains.{domains}
use Rattle.sd_plan.specs.declared.domain.DomainId.{DomainId}
use Rattle.sd_plan.specs.declared.Plan.{Plan}
use Rattle.sd_plan.specs.Structure.{structure_breach, ancestor_breach}
use Rattle.sd_checker.specs.check_root.Timing.{timing_breach}
use Rattle.sd_checker.specs.check_root.Roots.{root_breach}
use Rattle.sd_checker.specs.check_loop.Loops.{HasNoCycle}
use Rattle.sd_checker.specs.check_loop.ShownCycles.{ShowsCycle}
use Rattle.sd_checker.specs.check_reach.Reach.{DomainHolds, ReachHolds}
use Rattle.sd_checker.specs.check_reach.ShownChains.{ShowsDevice, IsShownChain}
use Rattle.sd_checker.specs.Conditions.{Condition, structure, ancestor, timing, root, loop, domain, reach, RootHolds, Holds, IsAccepted}
use Rattle.sd_checker.specs.declared.Breach.{Breach}
use Rattle.sd_checker.specs.declared.Breach.TheVariants as breach
use Rattle.sd_checker.specs.declared.Verdict.{Verdict}
use Rattle.sd_checker.specs.declared.Verdict.TheVariants.{Accepted, Refused}

-- the place of a condition in their order
abbrev pub place_of : Condition → ℕ
place_of structure = 1
place_of ancestor = 2
place_of timing = 3
place_of root = 4
place_of loop = 5
place_of domain = 6
place_of reach = 7

-- the condition is asked before the other one
abbrev pub is_before : Condition → Condition → Bool
is_before earlier later = nat_lt (place_of earlier) (place_of later)

-- f is a domain of the network, and something holds of each domain before it
abbrev pub IsFirstSuspect : Network → (DomainId → Type 0) → DomainId → Type 0
IsFirstSuspect net P f = (k : ℕ) × (slice_get (domains net) k ≡ Some f) × ((j : ℕ) (g : DomainId) → j < k → slice_get (domains net) j ≡ Some g → P g)

-- the condition that a breach is one of
abbrev pub condition_of : Breach → Condition
condition_of (breach.Structure rule device) = structure
condition_of (breach.Ancestor device) = ancestor
condition_of (breach.Timing t) = timing
condition_of (breach.Root f at) = root
condition_of (breach.Loop f cycle) = loop
condition_of (breach.Domain f device) = domain
condition_of (breach.Reach f chain) = reach

-- the breach shows how the plan breaks its condition: of the conditions on domains, by the first domain that breaks it
abbrev pub Shows : Network → Plan → Breach → Type 0
Shows net plan (breach.Structure rule device) = structure_breach net plan ≡ Some (rule, device)
Shows net plan (breach.Ancestor device) = ancestor_breach net plan ≡ Some device
Shows net plan (breach.Timing t) = timing_breach net plan ≡ Some t
Shows net plan (breach.Root f at) = IsFirstSuspect net (RootHolds net plan) f × (root_breach net plan f ≡ Some at)
Shows net plan (breach.Loop f cycle) = IsFirstSuspect net (HasNoCycle net plan) f × ShowsCycle net plan f cycle
Shows net plan (breach.Domain f device) = IsFirstSuspect net (DomainHolds net plan) f × ShowsDevice net plan f device
Shows net plan (breach.Reach f chain) = IsFirstSuspect net (ReachHolds net plan) f × IsShownChain net plan f chain

-- the breach is the first of the plan: the plan meets each condition before, and the breach shows what is to be shown
pub record IsBreach (net : Network) (plan : Plan) (breach : Breach) : Type 0 where
  pub before : (c : Condition) → IsTrue (is_before c (condition_of breach)) → Holds net plan c
  pub shows : Shows net plan breach

-- what the checker is to say
abbrev pub IsVerdict : Network → Plan → Verdict → Type 0
IsVerdict net plan Accepted = IsAccepted net plan
IsVerdict net plan (Refused breach) = IsBreach net plan breach
