-- Which domains have all that has failed.
use Rattle.std.specs.Prelude.{Bool}
use Rattle.std.specs.List.{list_all}
use Rattle.sd_plan.specs.topo.Network.{Network}
use Rattle.sd_plan.specs.declared.domain.DomainId.{DomainId}
use Rattle.sd_plan.specs.domain.Domains.{holds}
use Rattle.sd_plan.specs.domain.Failures.{FailedThings, things_of}

-- the domain has all that has failed
abbrev pub has_all : Network → FailedThings → DomainId → Bool
has_all net failed f = list_all (holds net f) (things_of failed)
