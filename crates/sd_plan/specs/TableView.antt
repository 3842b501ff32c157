-- What the fields of a table stand for.
use Rattle.std.specs.Prelude.{ℕ, List, length, map, slice_index_or, Option, None, option_map}
use Rattle.sd_num.specs.Lists.{below}
use Rattle.sd_plan.specs.Tables.{TableRow}
use Rattle.sd_plan.specs.declared.Duty.{Duty}
use Rattle.sd_plan.specs.declared.End.{End}
use Rattle.sd_plan.specs.declared.table.PlanTable.TheInside.{Inside}
use Rattle.sd_plan.specs.Joining.{part_of, AreOrdered}

-- the row of a device: its duty, and its part of the ends
abbrev pub row_seen : List (Option Duty) → List End → List ℕ → ℕ → Option TableRow
row_seen duties ends offsets d = option_map (λ duty. record { duty = duty; downstream = part_of ends offsets d }) (slice_index_or duties d None)

-- the rows by device
abbrev pub table_seen : Inside → List (Option TableRow)
table_seen t = map (row_seen t.duties.items t.ends.items t.offsets.items) (below (length t.duties.items))

-- each device has its part of the ends
abbrev pub IsTable : Inside → Type 0
IsTable t = AreOrdered (length t.duties.items) t.ends.items t.offsets.items
