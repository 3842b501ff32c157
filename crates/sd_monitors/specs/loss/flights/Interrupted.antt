-- Which flights are interrupted, told by one number for each device and link.
use Rattle.std.specs.Prelude.{ℕ, Bool, ◌||◌, nat_le}
use Rattle.sd_plan.specs.declared.topo.Thing.{Thing}
use Rattle.sd_plan.specs.declared.topo.Thing.TheVariants as thing
use Rattle.sd_monitors.specs.declared.loss.flights.WaitingFlight.{WaitingFlight}

-- a failure of its sender, its receiver or its link interrupted the flight
abbrev pub is_interrupted : (Thing → ℕ) → WaitingFlight → Bool
is_interrupted to f = nat_le f.number (to (thing.Device f.sender)) || nat_le f.number (to (thing.Device f.receiver)) || nat_le f.number (to (thing.Link f.link))
