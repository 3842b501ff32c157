-- Who stands on the short walk of a device.
use Rattle.std.specs.Prelude.{ℕ, Bool}
use Rattle.sd_num.specs.Lists.{has}
use Rattle.sd_plan.specs.topo.Network.{Network}
use Rattle.sd_plan.specs.Walks.{devices_of, short_walk}
use Rattle.sd_plan.specs.declared.Plan.{Plan}

-- the device d is on the short walk of x
abbrev pub is_above : Network → Plan → ℕ → ℕ → Bool
is_above net plan x d = has (devices_of x (short_walk net plan x)) d
