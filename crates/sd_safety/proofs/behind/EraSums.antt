-- Sums on what counts from the first event's era: a time, or in the first era the time by which all have started, where that is later.
use Rattle.std.specs.Prelude.{◌≡◌, ℕ, ◌≤◌, Bool, true, false, max, if◌then◌else◌}
use Rattle.std.proofs.Common.{arith}

pub late_since : (first : Bool) (r c : ℕ) → r ≤ (if first then max r c else r)
late_since true r c = omega arith
late_since false r c = omega arith

pub late_from_start : (first : Bool) (r c : ℕ) → first ≡ true → c ≤ (if first then max r c else r)
late_from_start true r c is = omega arith
late_from_start false r c is = cc

-- of two times
pub late_split : (first : Bool) (r q c : ℕ) → (if first then max r c else r) ≤ max r (if first then max q c else q)
late_split true r q c = omega arith
late_split false r q c = omega arith
