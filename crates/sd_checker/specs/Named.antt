-- The names of devices in a row.
use Rattle.std.specs.Prelude.{ℕ, List, ◌∷◌, flat_map}
use Rattle.sd_plan.specs.topo.Network.{Network}
use Rattle.sd_plan.specs.topo.Network.{device_name}

-- the names of devices, each after a space
abbrev pub named : Network → List ℕ → List ℕ
named net devices = flat_map (λ d. 32 ∷ device_name net d) devices
