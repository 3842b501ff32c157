-- The table of a plan: what each member is told, and which ends lie below it.
use Rattle.std.specs.Prelude.{ℕ, ◌<◌, IsTrue, length, Bool, true, false, List, [], ◌∷◌, map, filter_map, find, nat_eq, ◌&&◌, Option, Some, None, option_map, if◌then◌else◌}
use Rattle.sd_num.specs.Lists.{below, at_place, map_or}
use Rattle.sd_plan.specs.topo.Network.{Network, device_numbers, link_of}
use Rattle.sd_plan.specs.topo.Places.{is_end_of}
use Rattle.sd_plan.specs.Plans.{is_member}
use Rattle.sd_plan.specs.Duties.{duty_of, ends_of, follows_over}
use Rattle.sd_plan.specs.declared.Plan.{Plan}
use Rattle.sd_plan.specs.declared.Duty.{Duty}
use Rattle.sd_plan.specs.declared.End.{End}
use Rattle.sd_plan.specs.declared.Hop.{Hop}

-- what a table has of a member
pub record TableRow : Type 0 where
  pub duty : Duty
  pub downstream : List End

-- what a device is told, if it is a member
abbrev pub told_of : Network → Plan → ℕ → ℕ → Option Duty
told_of net plan epoch d = if is_member plan d then Some (duty_of net plan epoch d) else None

-- the duty and the downstream ends of a device, if it is a member
abbrev pub table_row : Network → Plan → ℕ → ℕ → Option TableRow
table_row net plan epoch d = option_map (λ duty. record { duty = duty; downstream = ends_of net plan d }) (told_of net plan epoch d)

-- the table of a plan with its number: a row for each member, nothing for another device
abbrev pub table_of : Network → Plan → ℕ → List (Option TableRow)
table_of net plan epoch = map (table_row net plan epoch) (device_numbers net)

-- the row at a device
abbrev pub row_at : List (Option TableRow) → ℕ → Option TableRow
row_at table d = at_place table d None (λ row. row)

-- there is one
abbrev pub has_row_at : List (Option TableRow) → ℕ → Bool
has_row_at table d = map_or (row_at table d) false (λ row. true)

-- the end below a device over a link, if some device follows it over this
abbrev pub end_over : Network → Plan → ℕ → ℕ → Option End
end_over net plan d l = option_map (λ c. record { link = l; device = c }) (find (follows_over plan d l) (device_numbers net))

-- the downstream ends of a device over the links below a number
abbrev pub ends_before : Network → Plan → ℕ → ℕ → List End
ends_before net plan n d = filter_map (end_over net plan d) (below n)

-- the child over a link, where it follows the parent, as an end below d
abbrev pub end_below : Plan → ℕ → ℕ → ℕ → ℕ → List End
end_below plan l parent child d = if nat_eq d parent && follows_over plan parent l child then record { link = l; device = child } ∷ [] else []

-- the hop's link is one of the network, and the device an end of it
abbrev pub EndsAt : Network → ℕ → Hop → Type 0
EndsAt net d hop = (hop.link < length net.links) × IsTrue (is_end_of (link_of net hop.link) d)
