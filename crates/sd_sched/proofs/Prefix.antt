-- Digits at the front of bytes that are the number of their first field.
use Rattle.std.proofs.Common.{◌≡◌, ℕ, ◌^◌, ◌<◌, ◌≤◌, true, not, ◌&&◌, List, length, take, drop, Ok, refl, sym, ap, ◌∙◌}
use Rattle.std.specs.Prelude.{nat_eq, nat_lt, slice_get}
use Rattle.std.specs.List.{list_all}
use Rattle.std.proofs.lemmas.Bool.{and_parts, not-true, ltb-true}
use Rattle.std.proofs.lemmas.List.{length-take-le}
use Rattle.sd_num.specs.Lists.{map_or}
use Rattle.sd_num.specs.Decimals.{is_digit, leads_with_zero, number, value}
use Rattle.sd_sched.specs.Lines.{first_field}
use Rattle.sd_sched.proofs.Cuts.{first_is_digits}
use Rattle.sd_sched.proofs.Decimals.{number_of_all}

-- the digits end the field, and are what a number is
pub front_number : (bytes : List ℕ) (n v : ℕ) → n ≤ length bytes → v ≡ value (take n bytes) → v < 2 ^ 64 → list_all is_digit (take n bytes) ≡ true
    → map_or (slice_get bytes n) true (λ byte. nat_eq byte 32) ≡ true → (nat_lt 0 (length (take n bytes)) && not (leads_with_zero (take n bytes))) ≡ true
    → number (first_field bytes) ≡ Ok v
front_number bytes n v inside is small digits ends plain =
    let parts = and_parts (nat_lt 0 (length (take n bytes))) (not (leads_with_zero (take n bytes))) plain in
    ap number (first_is_digits bytes n digits ends inside)
    ∙ number_of_all (take n bytes) digits (ltb-true 0 (length (take n bytes)) parts.0) (not-true (leads_with_zero (take n bytes)) parts.1) (rw is at small)
    ∙ ap Ok (sym is)

-- and they are all of it
pub front_length : (bytes : List ℕ) (n : ℕ) → n ≤ length bytes → list_all is_digit (take n bytes) ≡ true
    → map_or (slice_get bytes n) true (λ byte. nat_eq byte 32) ≡ true → length (first_field bytes) ≡ n
front_length bytes n inside digits ends = ap length (first_is_digits bytes n digits ends inside) ∙ length-take-le n bytes inside

-- what is left after them is what is left after the field
pub front_left : (bytes : List ℕ) (n : ℕ) → n ≤ length bytes → list_all is_digit (take n bytes) ≡ true
    → map_or (slice_get bytes n) true (λ byte. nat_eq byte 32) ≡ true → drop n bytes ≡ drop (length (first_field bytes)) bytes
front_left bytes n inside digits ends = rw (front_length bytes n inside digits ends) refl
