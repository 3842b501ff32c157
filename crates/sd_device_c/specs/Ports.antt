-- Ports: the links over which messages come to a device, and which of these it may be given.
use Rattle.std.specs.Prelude.{◌≡◌, ℕ, ◌+◌, ◌*◌, ◌^◌, ◌≤◌, ◌<◌, ◌↔◌, Bool, false, ◌&&◌, nat_le}
use Rattle.sd_num.specs.declared.Rates.{Rates}
use Rattle.sd_num.specs.Numbers.{low}
use Rattle.sd_plan.specs.topo.Limits.{IsRates}
use Rattle.sd_exports.specs.Ports.{Opening, StandsSince}
use Rattle.sd_device_c.specs.declared.faults.Fault.{Fault}
use Rattle.sd_device_c.specs.declared.faults.Fault.TheVariants.{NoDuty, RatesTooGreat}
use Rattle.sd_device_c.specs.declared.plain.PlainEdge.{PlainEdge}
use Rattle.sd_device_c.specs.declared.plain.PlainRates.{PlainRates}
use Rattle.sd_device_c.specs.declared.plain.PlainPort.{PlainPort}
use Rattle.sd_device_c.specs.Plain.{flag_from, wide_from, rates_from}

-- more than this time has surely passed exactly once a counter with these rates has advanced by the wait
abbrev pub IsWait : Rates → (time wait : ℕ) → Type 0
IsWait rates time wait = (advance : ℕ) → (wait ≤ advance) ↔ (time < low rates advance)

-- the greatest time for which a message over the edge is on its way: one that takes longer is not brought any more
abbrev pub longest_over : PlainEdge → ℕ
longest_over edge = 2 * (edge.mid + edge.half)

-- a message that came while the counter showed this may be given to the device
abbrev pub takes : PlainPort → ℕ → Bool
takes port counter = flag_from port.is_open && nat_le (wide_from port.clear) counter

-- the port was opened by this opening, whatever was lowered before
abbrev pub IsOpened : PlainEdge → PlainRates → (counter : ℕ) → PlainPort → Type 0
IsOpened edge rates counter port =
    (by reference : ℕ)
    → StandsSince by (takes port) (record { counter = counter + by; reference = reference; longest = longest_over edge; rates = rates_from rates })

-- the port takes nothing
abbrev pub IsShut : PlainPort → Type 0
IsShut port = (counter : ℕ) → takes port counter ≡ false

-- the port takes at lowered counters what it took before
pub record IsLowered (by : ℕ) (old new : PlainPort) : Type 0 where
  pub same : (counter : ℕ) → takes new counter ≡ takes old (counter + by)
  pub told : (before : ℕ) (opening : Opening) → StandsSince before (takes old) opening → StandsSince (before + by) (takes new) opening

-- an edge whose delay bounds are within the limits
pub record IsPlainEdge (edge : PlainEdge) : Type 0 where
  pub mid : edge.mid ≤ 10 ^ 12
  pub half : edge.half ≤ 10 ^ 12

-- what an opening owes
abbrev pub OwesToOpen : Fault → PlainEdge → PlainRates → Type 0
OwesToOpen NoDuty edge rates = IsPlainEdge edge
OwesToOpen RatesTooGreat edge rates = IsRates (rates_from rates)
OwesToOpen _ edge rates = Unit {0}

-- a port may be opened so
abbrev pub MayOpen : PlainEdge → PlainRates → Type 0
MayOpen edge rates = (fault : Fault) → OwesToOpen fault edge rates

-- the fault is one of this opening
abbrev pub HasOpenFault : PlainEdge → PlainRates → Fault → Type 0
HasOpenFault edge rates fault = OwesToOpen fault edge rates → ⊥
