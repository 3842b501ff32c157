-- The decimal text of a number, read back.
use Rattle.std.proofs.Common.{◌≡◌, ◌≢◌, ℕ, zero, suc, ◌^◌, ◌<◌, true, false, not, List, [], ◌∷◌, Ok, length, get_or, refl, ap, ◌∙◌, arith, rules, ne_eqb}
use Rattle.std.proofs.lemmas.Bool.{and_parts, lt-ltb, le-ltb}
use Rattle.std.proofs.lemmas.Fmt.{digits_decimal, digits_value-decimal, decimal_nonempty, first_decimal, decimal_digit}
use Rattle.std.proofs.lemmas.Str.Parse.{IsNumeralModel, IsDigitsTest, WeighsDigits, numerals_by_weight}
use Rattle.std.specs.Fmt.{decimal}
use Rattle.std.specs.List.{list_all, position_or_len}
use Rattle.sd_num.specs.Decimals.{is_digit, value, leads_with_zero, number}

-- the bytes are all digits
abbrev pub AllDigits : List ℕ → Type 0
AllDigits bytes = list_all is_digit bytes ≡ true

-- what tells digits from other bytes
tells_digits : IsDigitsTest AllDigits
tells_digits = search (rules)

-- what they mean
weighs : WeighsDigits value
weighs = search rules

-- so these are the digits and the values of the library
pub own : IsNumeralModel AllDigits value
own = numerals_by_weight AllDigits tells_digits value weighs

-- the digits go on to the end
digits_to_end : (bytes : List ℕ) → AllDigits bytes → position_or_len (λ b. not (is_digit b)) bytes ≡ length bytes
digits_to_end [] all = refl
digits_to_end (byte ∷ bytes) all =
    let parts = and_parts (is_digit byte) (list_all is_digit bytes) all in
    rw (parts.0, digits_to_end bytes parts.1) (omega arith)

-- digits that begin as a number does are read as what they mean
pub number_of_all : (bytes : List ℕ) → AllDigits bytes → 0 < length bytes → leads_with_zero bytes ≡ false → value bytes < 2 ^ 64
    → number bytes ≡ Ok (value bytes)
number_of_all [] all some first small = absurd (omega arith)
number_of_all (byte ∷ bytes) all some first small =
    rw (
      digits_to_end (byte ∷ bytes) all,
      le-ltb (length (byte ∷ bytes)) (length (byte ∷ bytes)) (omega arith),
      first,
      lt-ltb (value (byte ∷ bytes))
          (2 ^ 64) small,
    ) refl

-- a first byte above '0' is no leading zero
no_leading_zero : (bytes : List ℕ) → 48 < get_or bytes 0 0 → leads_with_zero bytes ≡ false
no_leading_zero [] above = refl
no_leading_zero (byte ∷ bytes) above =
    let other : byte ≢ 48 = omega arith in
    rw (ne_eqb byte 48 other) refl

-- the text of a number has no leading zero
decimal_first : (n : ℕ) → n < 2 ^ 64 → leads_with_zero (decimal n) ≡ false
decimal_first zero small = rw (decimal_digit 0 (omega arith)) refl
decimal_first (suc n) small = no_leading_zero (decimal (suc n)) (first_decimal (suc n) (omega arith) small)

-- the text of a number is digits
pub decimal_digits : (n : ℕ) → n < 2 ^ 64 → AllDigits (decimal n)
decimal_digits n small = digits_decimal own n small

-- the text of a number is read as that number
pub number-decimal : (n : ℕ) → n < 2 ^ 64 → number (decimal n) ≡ Ok n
number-decimal n small =
    let value_is : value (decimal n) ≡ n = digits_value-decimal own n small in
    number_of_all (decimal n) (decimal_digits n small) (decimal_nonempty n small) (decimal_first n small) (omega arith) ∙ ap Ok value_is
