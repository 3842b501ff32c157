-- The cycle that is shown of a plan that breaks the loop condition.
use Rattle.std.specs.Prelude.{◌≡◌, ℕ, ◌<◌, not, List, ◌∷◌, ◌++◌, length, nat_eq, IsTrue, []}
use Rattle.std.specs.List.{list_any}
use Rattle.sd_plan.specs.topo.Network.{Network}
use Rattle.sd_plan.specs.declared.domain.DomainId.{DomainId}
use Rattle.sd_plan.specs.declared.Hop.{Hop}
use Rattle.sd_plan.specs.declared.Plan.{Plan}
use Rattle.sd_checker.specs.check_loop.Loops.{hops_of, is_walk}

-- from the device some walk never ends: there are walks of each length
abbrev pub IsEndless : Network → Plan → DomainId → ℕ → Type 0
IsEndless net plan domain d = (n : ℕ) → (hs : List Hop) × (length hs ≡ n) × IsTrue (is_walk net plan domain d hs)

-- the least number with the property
abbrev pub IsLeast : (ℕ → Type 0) → ℕ → Type 0
IsLeast P d = P d × ((e : ℕ) → e < d → ¬ P e)

-- a device to which d may lead directly
abbrev pub LeadsTo : Network → Plan → DomainId → ℕ → ℕ → Type 0
LeadsTo net plan domain d e = IsTrue (list_any (λ hop. nat_eq hop.parent e) (hops_of net plan domain d))

-- where the shown cycle goes from d: the least device below which a walk never ends
abbrev pub IsNextShown : Network → Plan → DomainId → ℕ → ℕ → Type 0
IsNextShown net plan domain d = IsLeast (λ e. LeadsTo net plan domain d e × IsEndless net plan domain e)

-- each element and the next are related
abbrev pub IsChain : (ℕ → ℕ → Type 0) → List ℕ → Type 0
IsChain R [] = Unit {0}
IsChain R (x ∷ []) = Unit {0}
IsChain R (x ∷ y ∷ ys) = R x y × IsChain R (y ∷ ys)

-- there is a first element, and this is so of it
abbrev pub IsFirstOf : List ℕ → (ℕ → Type 0) → Type 0
IsFirstOf [] P = ⊥
IsFirstOf (x ∷ xs) P = P x

-- no number comes twice
abbrev pub AreDifferent : List ℕ → Type 0
AreDifferent [] = Unit {0}
AreDifferent (x ∷ xs) = IsTrue (not (list_any (nat_eq x) xs)) × AreDifferent xs

-- The cycle that is shown: begin at the least device from which a walk never ends, go on to the least such device each time, and
-- keep the devices from the first that comes again on.
pub record IsShownCycle (net : Network) (plan : Plan) (domain : DomainId) (first : ℕ) (others : List ℕ) : Type 0 where
  pub lead : List ℕ
  pub begins : IsFirstOf (lead ++ first ∷ others) (IsLeast (IsEndless net plan domain))
  pub goes_on : IsChain (IsNextShown net plan domain) (lead ++ (first ∷ others) ++ first ∷ [])
  pub once : AreDifferent (lead ++ first ∷ others)

-- the cycle that is shown has at least one device
abbrev pub ShowsCycle : Network → Plan → DomainId → List ℕ → Type 0
ShowsCycle net plan domain [] = ⊥
ShowsCycle net plan domain (first ∷ others) = IsShownCycle net plan domain first others
