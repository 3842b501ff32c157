-- When a line comes before all that a log still brings.
use Rattle.std.specs.Prelude.{◌≡◌, ◌<◌, ◌≤◌, ℕ, Bool, true, false, nat_le, nat_lt, refl, if◌then◌else◌}
use Rattle.std.proofs.Common.{arith, le-leb}
use Rattle.std.proofs.lemmas.Bool.{le-ltb, leb-false, leb-true, lt-leb, lt-ltb, ltb-false, ltb-true}
use Rattle.sd_record.specs.merge.Lines.{LogLine, precedes}

-- it comes before what this log brings from the reference on
abbrev pub IsBefore : (number from : ℕ) → LogLine → Type 0
IsBefore number from x = (x.reference ≤ from) × (number < x.log → x.reference < from)

-- it does not
abbrev pub IsNotBefore : (number from : ℕ) → LogLine → Type 0
IsNotBefore number from x = (from ≤ x.reference) × (x.log ≤ number → from < x.reference)

pub before : (number from : ℕ) (x : LogLine) → x.reference ≤ from → (number < x.log → x.reference < from) → precedes number from x ≡ true
before number from x low lower = go (nat_lt number x.log) refl
  where
    go : (b : Bool) → nat_lt number x.log ≡ b → (if b then nat_lt x.reference from else nat_le x.reference from) ≡ true
    go true is = lt-ltb x.reference from (lower (ltb-true number x.log is))
    go false is = le-leb x.reference from low

pub not_before : (number from : ℕ) (x : LogLine) → from ≤ x.reference → (x.log ≤ number → from < x.reference) → precedes number from x ≡ false
not_before number from x high higher = go (nat_lt number x.log) refl
  where
    go : (b : Bool) → nat_lt number x.log ≡ b → (if b then nat_lt x.reference from else nat_le x.reference from) ≡ false
    go true is = le-ltb x.reference from high
    go false is = lt-leb x.reference from (higher (ltb-false number x.log is))

pub is_before : (number from : ℕ) (x : LogLine) → precedes number from x ≡ true → IsBefore number from x
is_before number from x told = go (nat_lt number x.log) refl told
  where
    go : (b : Bool) → nat_lt number x.log ≡ b → (if b then nat_lt x.reference from else nat_le x.reference from) ≡ true → IsBefore number from x
    go true is less = let low : x.reference < from = ltb-true x.reference from less in (omega arith, λ higher. low)
    go false is less =
        let low : x.reference ≤ from = leb-true x.reference from less in
        let other : x.log ≤ number = ltb-false number x.log is in
        (low, λ higher. omega arith)

pub is_not_before : (number from : ℕ) (x : LogLine) → precedes number from x ≡ false → IsNotBefore number from x
is_not_before number from x told = go (nat_lt number x.log) refl told
  where
    go : (b : Bool) → nat_lt number x.log ≡ b → (if b then nat_lt x.reference from else nat_le x.reference from) ≡ false → IsNotBefore number from x
    go true is more =
        let high : from ≤ x.reference = ltb-false x.reference from more in
        let other : number < x.log = ltb-true number x.log is in
        (high, λ lower. omega arith)
    go false is more = let high : from < x.reference = leb-false x.reference from more in (omega arith, λ lower. high)
