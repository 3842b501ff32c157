-- The hops that a device may be on, by its row.
use Rattle.std.specs.Prelude.{ℕ, ◌<◌, List, ◌++◌, length, option_to_list, Option, None, IfSome, if◌then◌else◌}
use Rattle.std.specs.Option.{option_or}
use Rattle.sd_plan.specs.topo.Network.{Network}
use Rattle.sd_plan.specs.declared.domain.DomainId.{DomainId}
use Rattle.sd_plan.specs.declared.Hop.{Hop}
use Rattle.sd_plan.specs.declared.Plan.{Plan}
use Rattle.sd_plan.specs.Plans.{primary_of, backup_of}
use Rattle.sd_plan.specs.Tables.{EndsAt}
use Rattle.sd_plan.specs.Walks.{ends_walks, is_hit}
use Rattle.sd_drill.specs.declared.recovery.hops.Hops.{Hops}

-- the hops, the primary first
abbrev pub listed : Hops → List Hop
listed hops = option_to_list hops.primary ++ option_to_list hops.backup

-- the backup, where the domain hits the device
abbrev pub backup_under : Network → Plan → DomainId → ℕ → Option Hop
backup_under net plan f d = if is_hit net plan f d then backup_of plan d else None

-- no hop at all
abbrev pub no_hops : Hops
no_hops = record { primary = None; backup = None }

-- none where walks end; else the primary, and the backup where the domain hits the device
unfoldable pub hops_at : Network → Plan → DomainId → ℕ → Hops
hops_at net plan f d = if ends_walks plan d then no_hops else record { primary = primary_of plan d; backup = backup_under net plan f d }

-- the hop leads to a device of the network over a link that ends at d
abbrev pub IsRightHop : Network → ℕ → Hop → Type 0
IsRightHop net d hop = (hop.parent < length net.devices) × EndsAt net d hop

-- what holds of each of them
abbrev pub BothAre : (Hop → Type 0) → Hops → Type 0
BothAre P hops = IfSome hops.primary P × IfSome hops.backup P

-- the backup, or the primary where there is none
abbrev pub next_of : Hops → Option Hop
next_of hops = option_or hops.backup hops.primary
