-- The text of a number is a plain word, and says 0 of 0 alone.
use Rattle.std.specs.Prelude.{◌≡◌, ℕ, zero, suc, ◌+◌, ◌≤◌, ◌/◌, ◌%◌, ◌==◌, Bool, true, false, List, [], ◌∷◌, length, get_or, nat_lt, codes, decimal, refl, if◌then◌else◌}
use Rattle.std.specs.Fmt.{digits, digits_onto, digit_glyph}
use Rattle.std.proofs.Common.{arith, ap, eqb-true}
use Rattle.std.proofs.lemmas.Bool.{and_from, lt-ltb}
use Rattle.sd_headline.specs.Words.{is_plain}

glyph_plain : (d : ℕ) → nat_lt 32 (digit_glyph false d) ≡ true
glyph_plain d = by (nat_lt d 10)
  where
    by : (small : Bool) → nat_lt 32 (if small then 48 + d else 87 + d) ≡ true
    by true = lt-ltb 32 (48 + d) (omega arith)
    by false = lt-ltb 32 (87 + d) (omega arith)

digits_plain : (k n : ℕ) (behind : List ℕ) → is_plain behind ≡ true → is_plain (digits_onto k 10 false n behind) ≡ true
digits_plain zero n behind plain = plain
digits_plain (suc k) n behind plain = by (n / 10 == 0) (digits_plain k (n / 10) (digit_glyph false (n % 10) ∷ behind) more)
  where
    more : is_plain (digit_glyph false (n % 10) ∷ behind) ≡ true
    more = and_from (nat_lt 32 (digit_glyph false (n % 10))) (is_plain behind) (glyph_plain (n % 10)) plain

    by : (last : Bool) → is_plain (digits_onto k 10 false (n / 10) (digit_glyph false (n % 10) ∷ behind)) ≡ true
        → is_plain (if last then digit_glyph false (n % 10) ∷ behind else digits_onto k 10 false (n / 10) (digit_glyph false (n % 10) ∷ behind)) ≡ true
    by true others = more
    by false others = others

pub decimal_plain : (n : ℕ) → is_plain (decimal n) ≡ true
unfolding digits
decimal_plain n = digits_plain 64 n [] refl

-- more digits stand before those that are there
digits_longer : (k n : ℕ) (behind : List ℕ) → length behind ≤ length (digits_onto k 10 false n behind)
digits_longer zero n behind = omega arith
digits_longer (suc k) n behind = by (n / 10 == 0) (digits_longer k (n / 10) (digit_glyph false (n % 10) ∷ behind))
  where
    by : (last : Bool) → suc (length behind) ≤ length (digits_onto k 10 false (n / 10) (digit_glyph false (n % 10) ∷ behind))
        → length behind ≤ length (if last then digit_glyph false (n % 10) ∷ behind else digits_onto k 10 false (n / 10) (digit_glyph false (n % 10) ∷ behind))
    by true others = omega arith
    by false others = omega (arith, others)

two_digits : (k n other : ℕ) → 2 ≤ length (digits_onto (suc k) 10 false n (other ∷ []))
two_digits k n other = by (n / 10 == 0) (digits_longer k (n / 10) (digit_glyph false (n % 10) ∷ other ∷ []))
  where
    by : (last : Bool) → 2 ≤ length (digits_onto k 10 false (n / 10) (digit_glyph false (n % 10) ∷ other ∷ []))
        → 2 ≤ length (if last then digit_glyph false (n % 10) ∷ other ∷ [] else digits_onto k 10 false (n / 10) (digit_glyph false (n % 10) ∷ other ∷ []))
    by true others = omega arith
    by false others = others

glyph_of_zero : (d : ℕ) → digit_glyph false d ≡ 48 → d ≡ 0
glyph_of_zero d same = by (nat_lt d 10) same
  where
    by : (small : Bool) → (if small then 48 + d else 87 + d) ≡ 48 → d ≡ 0
    by true same = omega (arith, same)
    by false same = absurd (omega (arith, same))

-- `0` is the text of 0 alone
pub says_zero : (n : ℕ) → decimal n ≡ codes "0" → n ≡ 0
unfolding digits
says_zero n same = by (n / 10 == 0) refl same
  where
    by : (last : Bool) → (n / 10 == 0) ≡ last
        → (if last then digit_glyph false (n % 10) ∷ [] else digits_onto 63 10 false (n / 10) (digit_glyph false (n % 10) ∷ [])) ≡ codes "0" → n ≡ 0
    by true is same =
        let tens : n / 10 ≡ 0 = eqb-true (n / 10) 0 is in
        let ones : n % 10 ≡ 0 = glyph_of_zero (n % 10) (ap (λ bytes. get_or bytes 0 0) same) in
        omega (arith, tens, ones)
    by false is same =
        let long : 2 ≤ length (digits_onto 63 10 false (n / 10) (digit_glyph false (n % 10) ∷ [])) = two_digits 62 (n / 10) (digit_glyph false (n % 10)) in
        let short : length (digits_onto 63 10 false (n / 10) (digit_glyph false (n % 10) ∷ [])) ≡ 1 = ap length same in
        absurd (omega (arith, long, short))
