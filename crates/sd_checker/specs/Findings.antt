-- The conditions on what a domain hits (loop, domain, reach), asked of one domain after another.
use Rattle.std.specs.Prelude.{◌≡◌, ℕ, ◌<◌, Bool, true, nat_eq, slice_get, Option, Some, None, IsTrue}
use Rattle.sd_plan.specs.topo.Network.{Network}
use Rattle.sd_plan.specs.domain.Domains.{domains}
use Rattle.sd_plan.specs.declared.domain.DomainId.{DomainId}
use Rattle.sd_plan.specs.declared.Plan.{Plan}
use Rattle.sd_checker.specs.check_loop.Loops.{HasNoCycle}
use Rattle.sd_checker.specs.check_loop.ShownCycles.{ShowsCycle}
use Rattle.sd_checker.specs.check_reach.Reach.{DomainHolds, ReachHolds}
use Rattle.sd_checker.specs.check_reach.ShownChains.{ShowsDevice, IsShownChain}
use Rattle.sd_checker.specs.Conditions.{Condition, IsAccepted}
use Rattle.sd_checker.specs.Conditions as condition
use Rattle.sd_checker.specs.Verdicts.{IsBreach, is_before, place_of, condition_of, Shows}
use Rattle.sd_checker.specs.declared.Breach.{Breach}
use Rattle.sd_checker.specs.declared.Breach.TheVariants as breach

-- the domain meets the condition; the other conditions say nothing of it here
abbrev pub HoldsOf : Network → Plan → DomainId → Condition → Type 0
HoldsOf net plan f condition.structure = Unit {0}
HoldsOf net plan f condition.ancestor = Unit {0}
HoldsOf net plan f condition.timing = Unit {0}
HoldsOf net plan f condition.root = Unit {0}
HoldsOf net plan f condition.loop = HasNoCycle net plan f
HoldsOf net plan f condition.domain = DomainHolds net plan f
HoldsOf net plan f condition.reach = ReachHolds net plan f

-- the breach shows how this domain breaks the condition
abbrev pub ShowsOf : Network → Plan → DomainId → Breach → Type 0
ShowsOf net plan f (breach.Structure rule device) = ⊥
ShowsOf net plan f (breach.Ancestor device) = ⊥
ShowsOf net plan f (breach.Timing t) = ⊥
ShowsOf net plan f (breach.Root g at) = ⊥
ShowsOf net plan f (breach.Loop g cycle) = (g ≡ f) × ShowsCycle net plan f cycle
ShowsOf net plan f (breach.Domain g device) = (g ≡ f) × ShowsDevice net plan f device
ShowsOf net plan f (breach.Reach g chain) = (g ≡ f) × IsShownChain net plan f chain

-- the condition comes before that of the breach that was found, if one was
abbrev pub is_open : Option Breach → Condition → Bool
is_open None c = true
is_open (Some breach) c = is_before c (condition_of breach)

-- what is to be said of one domain: it meets each open condition, or the first that it breaks is shown
abbrev pub Judges : Network → Plan → Option Breach → DomainId → Option Breach → Type 0
Judges net plan found f None = (c : Condition) → IsTrue (is_open found c) → HoldsOf net plan f c
Judges net plan found f (Some breach) =
    IsTrue (is_open found (condition_of breach)) × ((c : Condition) → IsTrue (is_before c (condition_of breach)) → HoldsOf net plan f c)
    × ShowsOf net plan f breach

-- the breach is shown, if there is one
abbrev pub ShowsFound : Network → Plan → Option Breach → Type 0
ShowsFound net plan None = Unit {0}
ShowsFound net plan (Some breach) = Shows net plan breach

-- the breach is of the first of these conditions
abbrev pub is_loop : Breach → Bool
is_loop breach = nat_eq (place_of (condition_of breach)) (place_of condition.loop)

-- the breach, if there is one, is of a condition that comes after the one on loops
abbrev pub ComesAfterLoops : Option Breach → Type 0
ComesAfterLoops None = Unit {0}
ComesAfterLoops (Some breach) = IsTrue (is_before condition.loop (condition_of breach))

-- what was found of the first domains: each meets each open condition
pub record IsFoundAmong (net : Network) (plan : Plan) (count : ℕ) (found : Option Breach) : Type 0 where
  pub hold : (c : Condition) → IsTrue (is_open found c) → (j : ℕ) (g : DomainId) → j < count → slice_get (domains net) j ≡ Some g → HoldsOf net plan g c
  pub shows : ShowsFound net plan found
  pub later : ComesAfterLoops found

-- the first breach, or that the plan meets all conditions
abbrev pub Finds : Network → Plan → Option Breach → Type 0
Finds net plan None = IsAccepted net plan
Finds net plan (Some breach) = IsBreach net plan breach

-- the plan meets the conditions that ask for nothing that a domain hits
pub record IsSound (net : Network) (plan : Plan) : Type 0 where
  pub structure : condition.Holds net plan condition.structure
  pub ancestor : condition.Holds net plan condition.ancestor
  pub timing : condition.Holds net plan condition.timing
  pub root : condition.Holds net plan condition.root
