-- The pause of a device that is restored.
use Rattle.std.specs.Prelude.{ℕ, ◌+◌, ◌-◌, ◌^◌, ◌%◌, Bool, ◌&&◌, nat_le}
use Rattle.sd_num.specs.declared.Rates.{Rates}
use Rattle.sd_num.specs.Numbers.{up}

-- by how much a counter of 64 bits, which may have begun again once, advanced from one reading to another
abbrev pub advance : (before after : ℕ) → ℕ
advance before after = (after + (2 ^ 64 - before)) % 2 ^ 64

-- the rates are within their limits, and while the counter advanced by this much at most a tick passed
abbrev pub is_in_time : Rates → (tick advance : ℕ) → Bool
is_in_time rates tick advance = nat_le rates.ppm 100000 && nat_le rates.grain (10 ^ 12) && nat_le (up rates advance) tick
