-- Two conditions follow from others: a plan that breaks one of them breaks another one too.
use Rattle.sd_plan.specs.topo.Network.{Network}
use Rattle.sd_plan.specs.declared.Plan.{Plan}
use Rattle.sd_plan.specs.Plans.{Fits}
use Rattle.sd_checker.specs.Conditions.{Holds}
use Rattle.sd_checker.specs.Conditions as condition

-- ancestor follows from structure, root and loop
abbrev pub AncestorFollows : Network → Plan → Type 0
AncestorFollows net plan =
    Fits net plan → Holds net plan condition.structure → Holds net plan condition.root → Holds net plan condition.loop → Holds net plan condition.ancestor

-- domain follows from reach
abbrev pub DomainFollows : Network → Plan → Type 0
DomainFollows net plan = Holds net plan condition.reach → Holds net plan condition.domain
