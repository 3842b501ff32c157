-- Readings of a counter in one life of a device, as pairs of a reference and a counter, and how far the counter lies off the reference at them.
use Rattle.std.specs.Prelude.{ℕ, ◌+◌, ◌-◌, ◌*◌, ◌^◌, Bool, ◌&&◌, List, [], ◌∷◌, min, nat_le}
use Rattle.std.specs.List.{list_all}
use Rattle.sd_num.specs.declared.Rates.{Rates}
use Rattle.sd_num.specs.Numbers.{keeps_rate}
use Rattle.sd_monitors.specs.declared.clocks.offsets.Reading.{Reading}
use Rattle.sd_monitors.specs.declared.clocks.offsets.Offsets.{Offsets}

-- the reference and the counter of a reading
abbrev pub pair_of : Reading → ℕ × ℕ
pair_of reading = (reading.reference, reading.counter)

-- the reading keeps the rates with each of the readings
abbrev pub keeps_rates_with : Rates → List (ℕ × ℕ) → ℕ × ℕ → Bool
keeps_rates_with rates readings x = list_all (λ r. keeps_rate rates (x.1 - r.1) (x.0 - r.0)) readings

-- no reading is later than this one, by the reference or by the counter
abbrev pub is_after_each : List (ℕ × ℕ) → ℕ × ℕ → Bool
is_after_each readings x = list_all (λ r. nat_le r.0 x.0 && nat_le r.1 x.1) readings

-- What lies off

-- what is left of a u64
abbrev pub left_of : ℕ → ℕ
left_of n = 2 ^ 64 - 1 - n

-- (1000000 - ppm) counter - 1000000 reference, moved up by (1000000 + ppm) (2 ^ 64 - 1)
abbrev pub lead_at : ℕ → ℕ × ℕ → ℕ
lead_at ppm r = 1000000 * (r.1 + left_of r.0) + ppm * left_of r.1

-- 1000000 reference - (1000000 + ppm) counter, moved up as much
abbrev pub lag_at : ℕ → ℕ × ℕ → ℕ
lag_at ppm r = 1000000 * (r.0 + left_of r.1) + ppm * left_of r.1

-- both of one reading
abbrev pub offsets_at : ℕ → ℕ × ℕ → Offsets
offsets_at ppm r = record { lead = lead_at ppm r; lag = lag_at ppm r }

-- no reading has offsets as great
abbrev pub no_offsets : Offsets
no_offsets = record { lead = 2 ^ 128 - 1; lag = 2 ^ 128 - 1 }

-- the lesser of both leads, and of both lags
abbrev pub lesser : Offsets → Offsets → Offsets
lesser x y = record { lead = min x.lead y.lead; lag = min x.lag y.lag }

-- the least lead of the readings, and the least lag
abbrev pub least_offsets : ℕ → List (ℕ × ℕ) → Offsets
least_offsets ppm [] = no_offsets
least_offsets ppm (r ∷ rs) = lesser (least_offsets ppm rs) (offsets_at ppm r)

-- y is beyond x by no more than the grain
abbrev pub are_within : ℕ → Offsets → Offsets → Bool
are_within grain x y = nat_le (y.lead - x.lead) (grain * 1000000) && nat_le (y.lag - x.lag) (grain * 1000000)
