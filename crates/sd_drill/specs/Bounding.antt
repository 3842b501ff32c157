-- What is wanted before the bound of a device is looked for, and what is had after.
use Rattle.std.specs.Prelude.{ℕ, List, Option, IfOk, OnOk, Result}
use Rattle.sd_num.specs.declared.NoMemory.{NoMemory}
use Rattle.sd_plan.specs.topo.Network.{Network}
use Rattle.sd_plan.specs.declared.domain.DomainId.{DomainId}
use Rattle.sd_plan.specs.declared.Plan.{Plan}
use Rattle.sd_checker.specs.check_loop.Loops.{HasNoCycle}
use Rattle.sd_drill.specs.Bounds.{AreBounds}
use Rattle.sd_drill.specs.Drill.{IsListed}
use Rattle.sd_drill.specs.Times.{AreKnown, AreTimes}
use Rattle.sd_drill.specs.declared.Budget.{Budget}
use Rattle.sd_drill.specs.declared.drill.BoundCache.{BoundCache}
use Rattle.sd_drill.specs.declared.times.Times.{Times}
use Rattle.sd_drill.specs.recovery.Searches.{IsReadyFor}

-- bounds can be looked for when things of the domain fail: times and what is known are those of the plan, and hops lead in no circle
pub record CanBound (net : Network) (plan : Plan) (f : DomainId) (times : Times) (cache : BoundCache) : Type 0 where
  pub timed : AreTimes net plan times
  pub known : AreKnown net plan times.budget cache
  pub acyclic : HasNoCycle net plan f
  pub ready : IsReadyFor net plan f cache.recoveries

-- the bound of a device was looked for: it is what is listed for the device, and the next one can be looked for
pub record HasBound (net : Network) (plan : Plan) (f : DomainId) (budget : Budget) (d : ℕ) (result : Result (Option ℕ) NoMemory) (cache : BoundCache) : Type 0
  where
    pub bound : IfOk result (IsListed net plan budget f d)
    pub known : AreKnown net plan budget cache
    pub ready : OnOk result (IsReadyFor net plan f cache.recoveries)

-- the bounds of all devices were looked for: they are what is listed, and what is known serves another domain
pub record HasBounds (net : Network) (plan : Plan) (f : DomainId) (budget : Budget) (result : Result (List (Option ℕ)) NoMemory) (cache : BoundCache) : Type 0
  where
    pub bounds : IfOk result (AreBounds net plan budget f)
    pub known : AreKnown net plan budget cache
