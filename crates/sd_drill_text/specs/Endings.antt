-- How the lines of devices end that have a bound.
use Rattle.std.specs.Prelude.{◌≡◌, ℕ, ◌<◌, List, [], ◌∷◌, ◌++◌, length, slice_index_or, decimal, IfSome}
use Rattle.sd_io.specs.outside.Printed.{printed}
use Rattle.sd_plan.specs.topo.Network.{Network, device_name}
use Rattle.sd_drill_text.specs.declared.endings.CachedSuffix.{CachedSuffix}

-- a bound after the name of a device, and the end of the line
abbrev pub ending_of : List ℕ → ℕ → List ℕ
ending_of device w = device ++ 32 ∷ decimal w ++ 10 ∷ []

-- what is printed is the ending of the device with the bound that is noted, if one is
abbrev pub IsEndingOf : List ℕ → CachedSuffix → Type 0
IsEndingOf device ending = IfSome ending.bound (λ w. printed ending.text ≡ ending_of device w)

-- there is an ending for each device, and what is printed of it is right
pub record AreEndings (net : Network) (endings : List CachedSuffix) : Type 0 where
  pub size : length endings ≡ length net.devices
  pub each : (d : ℕ) (other : CachedSuffix) → d < length endings → IsEndingOf (device_name net d) (slice_index_or endings d other)
