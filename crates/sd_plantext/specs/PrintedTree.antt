-- The value that a plan is printed from: objects with their keys in byte order, and names for numbers.
use Rattle.std.specs.Prelude.{ℕ, ◌<◌, ◌^◌, List, [], ◌∷◌, map, filter_map, Option, Some, None, option_map, codes}
use Rattle.serde_json.specs.Data.{unsigned, negative, float, Data, null, boolean, number, string, array, object, Items, no_items, item, Members, no_members, member}
use Rattle.serde_json.specs.View.{items_of}
use Rattle.sd_plan.specs.topo.Network.{Network, device_names, link_names, device_numbers, name_at}
use Rattle.sd_plan.specs.declared.Hop.{Hop}
use Rattle.sd_plan.specs.declared.PlanRow.{PlanRow}
use Rattle.sd_plan.specs.declared.Plan.{Plan as PlanShown}
use Rattle.sd_plan.specs.Plans.{row_of}

-- a whole number
abbrev pub count : ℕ → Data
count n = number (unsigned n)

-- a device by its name
abbrev pub device_data : Network → ℕ → Data
device_data net d = string (name_at (device_names net) d)

-- a link by its name
abbrev pub link_data : Network → ℕ → Data
link_data net l = string (name_at (link_names net) l)

-- things by their names
abbrev pub list_data : (ℕ → Data) → List ℕ → Data
list_data name numbers = array (items_of (map name numbers))

-- a backup's members before those that follow
abbrev pub with_backup : Network → Option Hop → Members → Members
with_backup net None rest = rest
with_backup net (Some hop) rest =
    member (codes "backup") (device_data net hop.parent)
    (member (codes "backup_link") (link_data net hop.link) rest)

-- the members of the row of a device
unfoldable pub row_members : Network → ℕ → PlanRow → Members
row_members net d row =
    with_backup net row.backup
    (member (codes "device") (device_data net d)
    (member (codes "link") (link_data net row.primary.link)
    (member (codes "parent") (device_data net row.primary.parent) no_members)))

-- the row of a device, as an object
abbrev pub row_data : Network → ℕ → PlanRow → Data
row_data net d row = object (row_members net d row)

-- a device's row where it has one
abbrev pub row_listed : Network → ℕ → Option PlanRow → List Data
row_listed net d row = filter_map (λ d. option_map (row_data net d) row) (d ∷ [])

-- the rows of some devices
abbrev pub rows_listed : Network → PlanShown → List ℕ → List Data
rows_listed net plan devices = filter_map (λ d. option_map (row_data net d) (row_of plan d)) devices

-- the rows of some devices, as an array
abbrev pub rows_data : Network → PlanShown → List ℕ → Data
rows_data net plan devices = array (items_of (rows_listed net plan devices))

-- the members of a plan
unfoldable pub plan_members : Network → PlanShown → Members
plan_members net plan =
    member (codes "absent_devices") (list_data (device_data net) plan.absent.devices)
    (member (codes "absent_links") (list_data (link_data net) plan.absent.links)
    (member (codes "backup_root") (device_data net plan.backup_root)
    (member (codes "root") (device_data net plan.root)
    (member (codes "rows") (rows_data net plan (device_numbers net))
    (member (codes "version") (count 1)
    (member (codes "wait") (count plan.wait)
    (member (codes "wait_first") (count plan.wait_first)
    (member (codes "wait_second") (count plan.wait_second) no_members))))))))

-- a plan, as an object
abbrev pub plan_data : Network → PlanShown → Data
plan_data net plan = object (plan_members net plan)

-- made of strings and whole numbers below 2 ^ 64
abbrev mutual
  pub IsPlain : Data → Type 0
  IsPlain null = ⊥
  IsPlain (boolean b) = ⊥
  IsPlain (number (unsigned n)) = n < 2 ^ 64
  IsPlain (number (negative z)) = ⊥
  IsPlain (number (float x)) = ⊥
  IsPlain (string s) = Unit {0}
  IsPlain (array ds) = ArePlain ds
  IsPlain (object ms) = HasPlain ms

  pub ArePlain : Items → Type 0
  ArePlain no_items = Unit {0}
  ArePlain (item d ds) = IsPlain d × ArePlain ds

  pub HasPlain : Members → Type 0
  HasPlain no_members = Unit {0}
  HasPlain (member k d ms) = IsPlain d × HasPlain ms
