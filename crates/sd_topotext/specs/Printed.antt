-- The tree that a topology is printed as: a table of version 2 that names the rates of each device and all bounds of each link.
use Rattle.std.specs.Prelude.{ℕ, pos, List, ◌∷◌, map, codes, []}
use Rattle.std.specs.Ordering.{nat_cmp, match_ordering}
use Rattle.std.specs.Cmp.Lexicographic.{slice_cmp}
use Rattle.toml.specs.Data.{Data, string, integer, array, table, Members, no_members, member}
use Rattle.toml.specs.View.{items_of}
use Rattle.sd_plan.specs.declared.topo.Side.{Side}
use Rattle.sd_plan.specs.declared.topo.Side.TheVariants as sides
use Rattle.sd_topotext.specs.declared.fault.Key.{Key}
use Rattle.sd_topotext.specs.declared.fault.Key.TheVariants as keys
use Rattle.sd_topotext.specs.Keys.{word_of}
use Rattle.sd_plan.specs.topo.Network.{Network, Device, Link, Domain, device_names, link_names, name_at}

-- the members with a value at a key, in the order of the keys
abbrev pub put_word : List ℕ → Data → Members → Members
put_word k d no_members = member k d no_members
put_word k d (member l e ms) = match_ordering (slice_cmp nat_cmp k l) (member k d (member l e ms)) (member l d ms) (member l e (put_word k d ms))

-- the members with a value at a key
abbrev pub put : Key → Data → Members → Members
put key d ms = put_word (word_of key) d ms

-- a whole number
abbrev pub whole : ℕ → Data
whole n = integer (pos n)

-- the word of a side
abbrev pub side_word : Side → List ℕ
side_word sides.Root = codes "root"
side_word sides.Backup = codes "backup"

-- things by their names
abbrev pub names_data : List (List ℕ) → List ℕ → Data
names_data names numbers = array (items_of (map (λ n. string (name_at names n)) numbers))

-- the table of a device
unfoldable pub device_tree : Device → Members
device_tree device =
    put keys.DeviceName (string device.name) (put keys.DeviceSide (string (side_word device.side))
    (put keys.DevicePpm (whole device.rates.ppm) (put keys.DeviceGrain (whole device.rates.grain) no_members)))

-- the table of a link, whose ends stand by their names
unfoldable pub link_tree : List (List ℕ) → Link → Members
link_tree names link =
    put keys.LinkName (string link.name)
    (put keys.LinkEnds (array (items_of (string (name_at names link.entry.end_a) ∷ string (name_at names link.entry.end_b) ∷ [])))
    (put keys.LinkMin (whole link.entry.min) (put keys.LinkMax (whole link.entry.max)
    (put keys.LinkBackMin (whole link.entry.back_min) (put keys.LinkBackMax (whole link.entry.back_max) no_members)))))

-- the table of a listed domain, whose things stand by their names
unfoldable pub domain_tree : List (List ℕ) → List (List ℕ) → Domain → Members
domain_tree devices links domain =
    put keys.DomainName (string domain.name)
    (put keys.DomainDevices (names_data devices domain.devices) (put keys.DomainLinks (names_data links domain.links) no_members))

-- the numbers at the top
unfoldable pub params_tree : Network → Members
params_tree net =
    put keys.Version (whole 2) (put keys.Ppm (whole net.params.ppm) (put keys.Grain (whole net.params.grain) (put keys.Period (whole net.params.period)
    (put keys.Tick (whole net.params.tick) (put keys.Loss (whole net.params.loss) (put keys.Depth (whole net.params.depth) no_members))))))

-- the tables of a network, with its roots and its parameters
unfoldable pub network_tree : Network → Members
network_tree net =
    put keys.Device (array (items_of (map (λ device. table (device_tree device)) net.devices)))
    (put keys.Link (array (items_of (map (λ link. table (link_tree (device_names net) link)) net.links)))
    (put keys.Domain (array (items_of (map (λ domain. table (domain_tree (device_names net) (link_names net) domain)) net.domains)))
    (put keys.Roots (names_data (device_names net) net.roots) (params_tree net))))
