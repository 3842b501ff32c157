-- The cycle that is shown is the same over a network with each version. That there is none is said without a record, so it computes to the same.
use Rattle.std.specs.Prelude.{ℕ, List, [], ◌∷◌}
use Rattle.sd_plan.specs.topo.Network.{Network}
use Rattle.sd_plan.proofs.topo.Versions.{with_version}
use Rattle.sd_plan.specs.declared.domain.DomainId.{DomainId}
use Rattle.sd_plan.specs.declared.Plan.{Plan}
use Rattle.sd_checker.specs.check_loop.ShownCycles.{IsShownCycle, ShowsCycle}

module _ (v w : ℕ) (net : Network) (plan : Plan) (domain : DomainId) where
  pub IsShownCycle-with_version : (first : ℕ) (others : List ℕ) → IsShownCycle (with_version v net) plan domain first others
      → IsShownCycle (with_version w net) plan domain first others
  IsShownCycle-with_version first others shown = record { lead = shown.lead; begins = shown.begins; goes_on = shown.goes_on; once = shown.once }

  pub ShowsCycle-with_version : (cycle : List ℕ) → ShowsCycle (with_version v net) plan domain cycle → ShowsCycle (with_version w net) plan domain cycle
  ShowsCycle-with_version [] none = none
  ShowsCycle-with_version (first ∷ others) shown = IsShownCycle-with_version first others shown
