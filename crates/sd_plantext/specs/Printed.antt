-- How a plan is printed: compact JSON with the keys in byte order, names for numbers, and a newline.
use Rattle.std.specs.Prelude.{ℕ, List, [], ◌∷◌, ◌++◌, map, filter_map, Option, Some, None, option_map, codes, decimal}
use Rattle.std.specs.List.{join_with_byte}
use Rattle.sd_plan.specs.topo.Network.{Network, device_name, link_name, device_numbers}
use Rattle.sd_plan.specs.declared.Hop.{Hop}
use Rattle.sd_plan.specs.declared.PlanRow.{PlanRow}
use Rattle.sd_plan.specs.declared.Plan.{Plan}
use Rattle.sd_plan.specs.Plans.{row_of}

-- names need no escapes
abbrev pub quoted : List ℕ → List ℕ
quoted text = 34 ∷ text ++ 34 ∷ []

-- a key in quotes, a colon and its value
abbrev pub with_key : List ℕ → List ℕ → List ℕ
with_key key value = quoted key ++ 58 ∷ value

-- values parted by commas, in brackets and in braces
abbrev pub array : List (List ℕ) → List ℕ
array values = 91 ∷ join_with_byte 44 values ++ 93 ∷ []

-- values parted by commas, in braces
abbrev pub object : List (List ℕ) → List ℕ
object values = 123 ∷ join_with_byte 44 values ++ 125 ∷ []

-- the members of a row that name its backup parent and link, if it has them
abbrev pub backup_members : Network → Option Hop → List (List ℕ)
backup_members net None = []
backup_members net (Some hop) =
    with_key (codes "backup") (quoted (device_name net hop.parent)) ∷ with_key (codes "backup_link") (quoted (link_name net hop.link)) ∷ []

-- the text of the row of a device
abbrev pub row_text : Network → ℕ → PlanRow → List ℕ
row_text net d row =
    object
    (backup_members net row.backup
    ++ with_key (codes "device") (quoted (device_name net d))
    ∷ with_key (codes "link") (quoted (link_name net row.primary.link))
    ∷ with_key (codes "parent") (quoted (device_name net row.primary.parent))
    ∷ [])

-- the rows by ascending device
abbrev pub rows_text : Network → Plan → List ℕ
rows_text net plan = array (filter_map (λ d. option_map (row_text net d) (row_of plan d)) (device_numbers net))

-- the text of a plan
abbrev pub plan_text : Network → Plan → List ℕ
plan_text net plan =
    object
    (with_key (codes "absent_devices") (array (map (λ d. quoted (device_name net d)) plan.absent.devices))
    ∷ with_key (codes "absent_links") (array (map (λ l. quoted (link_name net l)) plan.absent.links))
    ∷ with_key (codes "backup_root") (quoted (device_name net plan.backup_root))
    ∷ with_key (codes "root") (quoted (device_name net plan.root))
    ∷ with_key (codes "rows") (rows_text net plan)
    ∷ with_key (codes "version") (decimal 1)
    ∷ with_key (codes "wait") (decimal plan.wait)
    ∷ with_key (codes "wait_first") (decimal plan.wait_first)
    ∷ with_key (codes "wait_second") (decimal plan.wait_second)
    ∷ [])
    ++ 10 ∷ []
