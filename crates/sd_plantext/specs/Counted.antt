-- What the reader counts: the names of devices and of links, and the rows that are there.
use Rattle.std.specs.Prelude.{ℕ, List, Option, sum_by, is_some, if◌then◌else◌}
use Rattle.sd_plan.specs.topo.Network.{Network, device_names, link_names}
use Rattle.sd_plan.specs.declared.PlanRow.{PlanRow}
use Rattle.sd_plantext.specs.declared.read.names.Kind.{Kind}
use Rattle.sd_plantext.specs.declared.read.names.Kind.TheVariants as kinds

-- the names of a kind, by number
abbrev pub names_of : Kind → Network → List (List ℕ)
names_of kinds.Device net = device_names net
names_of kinds.Link net = link_names net

-- how many devices have a row
abbrev pub filled : List (Option PlanRow) → ℕ
filled rows = sum_by (λ row. if is_some row then 1 else 0) rows
