-- An estimate that is moved on to a later counter.
use Rattle.std.specs.Prelude.{ℕ, ◌+◌, ◌-◌, ◌*◌, ◌/◌}
use Rattle.sd_num.specs.declared.Rates.{Rates}
use Rattle.sd_num.specs.declared.clock.Estimate.{Estimate}

-- the estimate of this many ps later, over which its uncertainty grew by this much
abbrev pub moved_on : Estimate → (elapsed growth : ℕ) → Estimate
moved_on estimate elapsed growth = record { clock = estimate.clock + elapsed; base = estimate.base + growth; at = estimate.at + elapsed }

-- the whole microseconds from the setting event to a counter
abbrev pub microseconds_to : Estimate → ℕ → ℕ
microseconds_to estimate counter = (counter - estimate.at) / 1000000

-- the estimate moved on towards a counter by whole microseconds: over each its uncertainty grew by as many ps as the rate has parts per million
abbrev pub advanced : Rates → Estimate → ℕ → Estimate
advanced rates estimate counter =
    moved_on estimate (1000000 * microseconds_to estimate counter) (rates.ppm * microseconds_to estimate counter)
