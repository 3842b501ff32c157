-- What the checks of lost backups and of reach answer: none, or one that they show.
use Rattle.std.specs.Prelude.{ℕ, List, Option, Some, None}
use Rattle.sd_plan.specs.topo.Network.{Network}
use Rattle.sd_plan.specs.declared.domain.DomainId.{DomainId}
use Rattle.sd_plan.specs.declared.Plan.{Plan}
use Rattle.sd_checker.specs.check_reach.Reach.{DomainHolds, ReachHolds}
use Rattle.sd_checker.specs.check_reach.ShownChains.{IsShownChain, ShowsDevice}

-- what is to be answered of the domain condition: nothing where it holds, else the device to be shown
abbrev pub DomainShown : Network → Plan → DomainId → Option ℕ → Type 0
DomainShown net plan domain None = DomainHolds net plan domain
DomainShown net plan domain (Some d) = ShowsDevice net plan domain d

-- what is to be answered of reach: nothing where it holds, else the chain to be shown
abbrev pub ReachShown : Network → Plan → DomainId → Option (List ℕ) → Type 0
ReachShown net plan domain None = ReachHolds net plan domain
ReachShown net plan domain (Some chain) = IsShownChain net plan domain chain
