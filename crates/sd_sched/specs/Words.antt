-- Eight bytes in a word, and the digits that they begin with.
use Rattle.std.specs.Prelude.{ℕ, ◌≡◌, List, take}
use Rattle.std.specs.Str.Parse.{digits_value}
use Rattle.std.specs.Float.Numeral.{digits_len}
use Rattle.core.specs.Dec2flt.Digits.{IsEightBytes}
use lib.Lanes.{number_l}

-- of the bytes that the word holds, the first of them lowest, this many are digits from the first on, and this is their number
abbrev pub BeginsWith : ℕ → ℕ → ℕ → Type 0
BeginsWith word count n = (bytes : List ℕ) → IsEightBytes bytes → word ≡ number_l 256 bytes
    → (digits_len bytes ≡ count) × (digits_value 10 (take count bytes) ≡ n)

-- all of the bytes that the word holds are digits
abbrev pub IsOfDigits : ℕ → Type 0
IsOfDigits word = (bytes : List ℕ) → IsEightBytes bytes → word ≡ number_l 256 bytes → digits_len bytes ≡ 8
