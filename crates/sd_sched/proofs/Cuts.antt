-- The fields of a line: the first of them, and those after it.
use Rattle.std.proofs.Common.{◌≡◌, ℕ, zero, suc, ◌≤◌, Bool, true, false, cond, eqb, List, [], ◌∷◌, length, take, drop, refl, ap, arith}
use Rattle.std.specs.Prelude.{nat_eq, slice_get}
use Rattle.std.specs.List.{list_all}
use Rattle.std.proofs.lemmas.Bool.{and_parts}
use Rattle.sd_num.specs.Lists.{map_or}
use Rattle.sd_num.specs.Decimals.{is_digit}
use Rattle.sd_sched.specs.Lines.{fields, with_front, first_field}
use Rattle.sd_sched.specs.Reading.{fields_behind}
use Rattle.sd_sched.proofs.Joined.{no_space_digit}

-- what stands before the first space, and the fields after it
pub fields_step : (bytes : List ℕ) → fields bytes ≡ first_field bytes ∷ fields_behind (drop (length (first_field bytes)) bytes)
fields_step [] = refl
fields_step (byte ∷ bytes) = go (eqb byte 32) (fields_step bytes)
  where
    go : (space : Bool) → fields bytes ≡ first_field bytes ∷ fields_behind (drop (length (first_field bytes)) bytes)
        → cond space ([] ∷ fields bytes) (with_front byte (fields bytes))
        ≡ cond space [] (byte ∷ first_field bytes) ∷ fields_behind (drop (length (cond space [] (byte ∷ first_field bytes))) (byte ∷ bytes))
    go true later = refl
    go false later = ap (with_front byte) later

-- digits up to a space or the end of the bytes are the first field
pub first_is_digits : (bytes : List ℕ) (n : ℕ) → list_all is_digit (take n bytes) ≡ true → map_or (slice_get bytes n) true (λ byte. nat_eq byte 32) ≡ true
    → n ≤ length bytes → first_field bytes ≡ take n bytes
first_is_digits [] zero digits ends inside = refl
first_is_digits [] (suc n) digits ends inside = absurd (omega arith)
first_is_digits (byte ∷ bytes) zero digits ends inside = rw ends refl
first_is_digits (byte ∷ bytes) (suc n) digits ends inside =
    let parts = and_parts (is_digit byte) (list_all is_digit (take n bytes)) digits in
    rw (no_space_digit byte parts.0) (ap (λ (bs : List ℕ). byte ∷ bs) (first_is_digits bytes n parts.1 ends (omega arith)))
