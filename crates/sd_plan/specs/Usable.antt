-- The usable links of devices, a link at a time.
use Rattle.std.specs.Prelude.{ℕ, ◌&&◌, List, [], ◌∷◌, filter_map, nat_eq, if◌then◌else◌}
use Rattle.sd_num.specs.Lists.{below}
use Rattle.sd_plan.specs.topo.Network.{Network}
use Rattle.sd_plan.specs.Plans.{is_member}
use Rattle.sd_plan.specs.IndexedPlan.{usable_end}
use Rattle.sd_plan.specs.declared.Plan.{Plan}
use Rattle.sd_plan.specs.declared.End.{End}

-- the usable links of a device below a number, with their other ends
abbrev pub usable_before : Network → Plan → ℕ → ℕ → List End
usable_before net plan n d = filter_map (usable_end net plan d) (below n)

-- the other end of a link of a device, where it is a member, as a usable end of d
abbrev pub usable_below : Plan → ℕ → ℕ → ℕ → ℕ → List End
usable_below plan l at other d = if nat_eq d at && is_member plan other then record { link = l; device = other } ∷ [] else []
