-- Root and backup root do not fail together, and what cuts the backup root's path leaves its backup path sound.
use Rattle.std.specs.Prelude.{ℕ, ◌&&◌, not, List, [], ◌∷◌, find, filter, Option, Some, None, option_map, if◌then◌else◌}
use Rattle.sd_num.specs.Lists.{has, map_or}
use Rattle.sd_plan.specs.topo.Network.{Network, device_numbers, link_numbers}
use Rattle.sd_plan.specs.declared.topo.Thing.{Thing}
use Rattle.sd_plan.specs.declared.topo.Thing.TheVariants as thing
use Rattle.sd_plan.specs.domain.Domains.{holds_device, holds_link, hits}
use Rattle.sd_plan.specs.declared.domain.DomainId.{DomainId}
use Rattle.sd_plan.specs.declared.Plan.{Plan}
use Rattle.sd_plan.specs.Plans.{backup_of, is_root}
use Rattle.sd_plan.specs.Walks.{walk, path, devices_of, links_of}
use Rattle.std.specs.Option.{option_or}

-- the devices of the walk from the backup root's backup parent, without the root
abbrev pub fallback_devices : Network → Plan → List ℕ
fallback_devices net plan =
    map_or (backup_of plan plan.backup_root) [] (λ hop. filter (λ d. not (is_root plan d)) (devices_of hop.parent (walk net plan hop.parent)))

-- the backup root's backup link, and the links of that walk
abbrev pub fallback_links : Network → Plan → List ℕ
fallback_links net plan = map_or (backup_of plan plan.backup_root) [] (λ hop. hop.link ∷ links_of (walk net plan hop.parent))

-- the least device of the domain that the fallback needs, else the least such link
abbrev pub fallback_breach : Network → Plan → DomainId → Option Thing
fallback_breach net plan domain =
    option_or
    (option_map thing.Device (find (λ d. holds_device net domain d && has (fallback_devices net plan) d) (device_numbers net)))
    (option_map thing.Link (find (λ l. holds_link net domain l && has (fallback_links net plan) l) (link_numbers net)))

-- what of the domain breaks the condition: the backup root where it has both roots, else what it takes of the fallback while it hits the backup root's path
abbrev pub root_breach : Network → Plan → DomainId → Option Thing
root_breach net plan domain =
    if holds_device net domain plan.root && holds_device net domain plan.backup_root then Some (thing.Device plan.backup_root)
    else if hits net domain (path net plan plan.backup_root) then fallback_breach net plan domain
    else None
