-- What the check for loops answers: no cycle, or a cycle that it shows.
use Rattle.std.specs.Prelude.{ℕ, List, Option, Some, None}
use Rattle.sd_plan.specs.topo.Network.{Network}
use Rattle.sd_plan.specs.declared.domain.DomainId.{DomainId}
use Rattle.sd_plan.specs.declared.Plan.{Plan}
use Rattle.sd_checker.specs.check_loop.Loops.{HasNoCycle}
use Rattle.sd_checker.specs.check_loop.ShownCycles.{ShowsCycle}

-- what is to be answered: nothing where there is no cycle, else the one to be shown
abbrev pub LoopShown : Network → Plan → DomainId → Option (List ℕ) → Type 0
LoopShown net plan domain None = HasNoCycle net plan domain
LoopShown net plan domain (Some cycle) = ShowsCycle net plan domain cycle
