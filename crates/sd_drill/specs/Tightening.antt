-- What is wanted before the tight number of a device is looked for, and what is had after.
use Rattle.std.specs.Prelude.{ℕ, List, Option, IfOk, OnOk, Result}
use Rattle.sd_num.specs.declared.NoMemory.{NoMemory}
use Rattle.sd_plan.specs.topo.Network.{Network}
use Rattle.sd_plan.specs.declared.domain.DomainId.{DomainId}
use Rattle.sd_plan.specs.declared.Plan.{Plan}
use Rattle.sd_checker.specs.check_loop.Loops.{HasNoCycle}
use Rattle.sd_drill.specs.Tight.{AreTight, AreTightTimes, IsTightListed}
use Rattle.sd_drill.specs.declared.Budget.{Budget}
use Rattle.sd_drill.specs.declared.recovery.search.Recoveries.{Recoveries}
use Rattle.sd_drill.specs.declared.tight.TightTimes.{TightTimes}
use Rattle.sd_drill.specs.recovery.Searches.{HasRoom, IsReadyFor}

-- tight numbers can be looked for when things of the domain fail: the times are those of the plan, hops lead in no circle, and no search is under way
pub record CanTighten (net : Network) (plan : Plan) (f : DomainId) (times : TightTimes) (recoveries : Recoveries) : Type 0 where
  pub timed : AreTightTimes net plan times
  pub acyclic : HasNoCycle net plan f
  pub ready : IsReadyFor net plan f recoveries
  pub room : HasRoom net recoveries

-- the tight number of a device was looked for: it is what is listed for the device, and the next one can be looked for
pub record HasNumber (net : Network) (plan : Plan) (f : DomainId) (budget : Budget) (d : ℕ) (result : Result (Option ℕ) NoMemory) (recoveries : Recoveries)
    : Type 0 where
  pub number : IfOk result (IsTightListed net plan budget f d)
  pub ready : OnOk result (IsReadyFor net plan f recoveries)
  pub room : HasRoom net recoveries

-- the tight numbers of all devices were looked for: they are what is listed, and there is room for another domain
pub record HasNumbers (net : Network) (plan : Plan) (f : DomainId) (budget : Budget) (result : Result (List (Option ℕ)) NoMemory) (recoveries : Recoveries)
    : Type 0 where
  pub numbers : IfOk result (AreTight net plan budget f)
  pub room : HasRoom net recoveries
