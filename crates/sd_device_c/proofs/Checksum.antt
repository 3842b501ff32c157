-- The checksum: it tells bytes from others that differ in one.
use Rattle.std.specs.Prelude.{ℕ, zero, suc, ◌+◌, ◌-◌, ◌/◌, ◌%◌, ◌^◌, ◌<◌, ◌≢◌, ◌⊎◌, List, [], ◌∷◌, ◌++◌, bit_xor, get_or}
use Rattle.std.proofs.Common.{◌≡◌, sym, ap, ◌∙◌, subst, inl, inr, ⊎_elim, arith}
use Rattle.std.specs.Int.{bit_at}
use Rattle.std.specs.List.{fold}
use Rattle.std.proofs.lemmas.Bool.{cases_eq}
use Rattle.std.proofs.lemmas.List.Sums.{fold-append}
use Rattle.std.proofs.lemmas.Nat.{xor_lt}
use Rattle.std.proofs.lemmas.Nat.Bits.{bit_at_xor, bit_at-lt, bit_at_above, same_from_bits}
use Rattle.sd_device_c.specs.Crc.{turned, turns, fed, crc_of}

-- one bit of two sums says one bit
same_bit : (a x y : ℕ) → x < 2 → y < 2 → (a + x) % 2 ≡ (a + y) % 2 → x ≡ y
same_bit a x y xb yb same = omega (arith, xb, yb, same)

xor_same : (a x y : ℕ) → bit_xor a x ≡ bit_xor a y → x ≡ y
xor_same a x y same =
    same_from_bits x y
    (λ i. same_bit (bit_at a i) (bit_at x i) (bit_at y i) (bit_at-lt x i) (bit_at-lt y i)
    (sym (bit_at_xor a x i) ∙ ap (λ (n : ℕ). bit_at n i) same ∙ bit_at_xor a y i))

same_bit_left : (a x y : ℕ) → x < 2 → y < 2 → (x + a) % 2 ≡ (y + a) % 2 → x ≡ y
same_bit_left a x y xb yb same = omega (arith, xb, yb, same)

xor_same_left : (a x y : ℕ) → bit_xor x a ≡ bit_xor y a → x ≡ y
xor_same_left a x y same =
    same_from_bits x y
    (λ i. same_bit_left (bit_at a i) (bit_at x i) (bit_at y i) (bit_at-lt x i) (bit_at-lt y i)
    (sym (bit_at_xor x a i) ∙ ap (λ (n : ℕ). bit_at n i) same ∙ bit_at_xor y a i))

-- the divisor has the highest bit, and half of a register has not
top_of_divisor : (half : ℕ) → half < 2 ^ 31 → bit_at (bit_xor half 0xEDB88320) 31 ≡ 1
top_of_divisor half small =
    bit_at_xor half 0xEDB88320 31 ∙ ap (λ (b : ℕ). (b + 1) % 2) (bit_at_above half 31 31 small (omega arith))

tops_differ : (a b : ℕ) → a < 2 ^ 31 → b < 2 ^ 31 → bit_xor a 0xEDB88320 ≡ b → ⊥
tops_differ a b a_small b_small same =
    let one = sym (top_of_divisor a a_small) ∙ ap (λ (n : ℕ). bit_at n 31) same in
    let none = bit_at_above b 31 31 b_small (omega arith) in
    omega (arith, one, none)

half_small : (r : ℕ) → r < 2 ^ 32 → r / 2 < 2 ^ 31
half_small r fits = omega (arith, fits)

whole : (a b odd : ℕ) → a % 2 ≡ odd → b % 2 ≡ odd → a / 2 ≡ b / 2 → a ≡ b
whole a b odd one other halves = omega (arith, one, other, halves)

even_or_odd : (r : ℕ) → (r % 2 ≡ 0) ⊎ (r % 2 ≡ 1)
even_or_odd r = ⊎_elim (λ (odd : r % 2 ≡ 1). inr odd) (λ (other : r % 2 ≢ 1). inl (omega (arith, other))) (cases_eq (r % 2) 1)

turned_odd : (r : ℕ) → r % 2 ≡ 1 → turned r ≡ bit_xor (r / 2) 0xEDB88320
unfolding turned
turned_odd r odd = rw odd

turned_even : (r : ℕ) → r % 2 ≡ 0 → turned r ≡ r / 2
unfolding turned
turned_even r even = rw even

turned_lt : (r : ℕ) → r < 2 ^ 32 → turned r < 2 ^ 32
turned_lt r fits =
    ⊎_elim
    (λ (even : r % 2 ≡ 0). subst (λ (n : ℕ). n < 2 ^ 32) (sym (turned_even r even)) (omega (arith, fits)))
    (λ (odd : r % 2 ≡ 1). subst (λ (n : ℕ). n < 2 ^ 32) (sym (turned_odd r odd)) (xor_lt 32 (r / 2) 0xEDB88320 (omega (arith, fits)) (omega arith)))
    (even_or_odd r)

-- no two registers turn into one
turned_same : (a b : ℕ) → a < 2 ^ 32 → b < 2 ^ 32 → turned a ≡ turned b → a ≡ b
turned_same a b a_fits b_fits same =
    ⊎_elim
    (λ (even : a % 2 ≡ 0).
    ⊎_elim
    (λ (other : b % 2 ≡ 0). whole a b 0 even other (sym (turned_even a even) ∙ same ∙ turned_even b other))
    (λ (other : b % 2 ≡ 1).
    absurd
    (tops_differ (b / 2) (a / 2) (half_small b b_fits) (half_small a a_fits)
    (sym (turned_odd b other) ∙ sym same ∙ turned_even a even)))
    (even_or_odd b))
    (λ (odd : a % 2 ≡ 1).
    ⊎_elim
    (λ (other : b % 2 ≡ 0).
    absurd
    (tops_differ (a / 2) (b / 2) (half_small a a_fits) (half_small b b_fits)
    (sym (turned_odd a odd) ∙ same ∙ turned_even b other)))
    (λ (other : b % 2 ≡ 1).
    whole a b 1 odd other
    (xor_same_left 0xEDB88320 (a / 2) (b / 2) (sym (turned_odd a odd) ∙ same ∙ turned_odd b other)))
    (even_or_odd b))
    (even_or_odd a)

turns_lt : (k r : ℕ) → r < 2 ^ 32 → turns k r < 2 ^ 32
unfolding turns
turns_lt zero r fits = fits
turns_lt (suc k) r fits = turned_lt (turns k r) (turns_lt k r fits)

turns_same : (k a b : ℕ) → a < 2 ^ 32 → b < 2 ^ 32 → turns k a ≡ turns k b → a ≡ b
unfolding turns
turns_same zero a b a_fits b_fits same = same
turns_same (suc k) a b a_fits b_fits same =
    turns_same k a b a_fits b_fits (turned_same (turns k a) (turns k b) (turns_lt k a a_fits) (turns_lt k b b_fits) same)

fed_lt : (r byte : ℕ) → r < 2 ^ 32 → byte < 2 ^ 32 → fed r byte < 2 ^ 32
unfolding fed
fed_lt r byte fits byte_fits = turns_lt 8 (bit_xor r byte) (xor_lt 32 r byte fits byte_fits)

-- of two registers the same byte makes two
fed_same : (byte a b : ℕ) → byte < 2 ^ 32 → a < 2 ^ 32 → b < 2 ^ 32 → fed a byte ≡ fed b byte → a ≡ b
unfolding fed
fed_same byte a b byte_fits a_fits b_fits same =
    xor_same_left byte a b
    (turns_same 8 (bit_xor a byte) (bit_xor b byte) (xor_lt 32 a byte a_fits byte_fits) (xor_lt 32 b byte b_fits byte_fits) same)

-- and so do two bytes of one register
fed_byte_same : (r x y : ℕ) → r < 2 ^ 32 → x < 2 ^ 32 → y < 2 ^ 32 → fed r x ≡ fed r y → x ≡ y
unfolding fed
fed_byte_same r x y fits x_fits y_fits same =
    xor_same r x y
    (turns_same 8 (bit_xor r x) (bit_xor r y) (xor_lt 32 r x fits x_fits) (xor_lt 32 r y fits y_fits) same)

-- each number is that of a byte
abbrev pub AreBytes : List ℕ → Type 0
AreBytes xs = (k : ℕ) → get_or xs k 0 < 256

byte_fits : (x : ℕ) → x < 256 → x < 2 ^ 32
byte_fits x fits = omega (arith, fits)

folded_lt : (xs : List ℕ) (r : ℕ) → AreBytes xs → r < 2 ^ 32 → fold fed r xs < 2 ^ 32
folded_lt [] r bytes fits = fits
folded_lt (x ∷ xs) r bytes fits =
    folded_lt xs (fed r x) (λ k. bytes (suc k)) (fed_lt r x fits (byte_fits x (bytes zero)))

folded_same : (xs : List ℕ) (a b : ℕ) → AreBytes xs → a < 2 ^ 32 → b < 2 ^ 32 → fold fed a xs ≡ fold fed b xs → a ≡ b
folded_same [] a b bytes a_fits b_fits same = same
folded_same (x ∷ xs) a b bytes a_fits b_fits same =
    let x_fits : x < 2 ^ 32 = byte_fits x (bytes zero) in
    fed_same x a b x_fits a_fits b_fits
    (folded_same xs (fed a x) (fed b x) (λ k. bytes (suc k)) (fed_lt a x a_fits x_fits) (fed_lt b x b_fits x_fits) same)

-- one checksum is one register
unturned : (a b : ℕ) → a < 2 ^ 32 → b < 2 ^ 32 → 2 ^ 32 - 1 - a ≡ 2 ^ 32 - 1 - b → a ≡ b
unturned a b a_fits b_fits same = omega (arith, a_fits, b_fits, same)

pub ahead : (xs ys : List ℕ) → AreBytes (xs ++ ys) → AreBytes ys
ahead [] ys bytes = bytes
ahead (x ∷ xs) ys bytes = ahead xs ys (λ k. bytes (suc k))

pub at_front : (xs ys : List ℕ) → AreBytes (xs ++ ys) → AreBytes xs
at_front [] ys bytes k = omega arith
at_front (x ∷ xs) ys bytes zero = bytes zero
at_front (x ∷ xs) ys bytes (suc k) = at_front xs ys (λ j. bytes (suc j)) k

-- bytes that differ in one have two checksums
pub differs : (before after : List ℕ) (x y : ℕ) → AreBytes (before ++ x ∷ after) → y < 256
    → crc_of (before ++ x ∷ after) ≡ crc_of (before ++ y ∷ after) → x ≡ y
unfolding crc_of
differs before after x y bytes y_byte same =
    let start : ℕ = 2 ^ 32 - 1 in
    let r : ℕ = fold fed start before in
    let r_fits : r < 2 ^ 32 = folded_lt before start (at_front before (x ∷ after) bytes) (omega arith) in
    let rest = ahead before (x ∷ after) bytes in
    let after_bytes : AreBytes after = λ k. rest (suc k) in
    let x_fits : x < 2 ^ 32 = byte_fits x (rest zero) in
    let y_fits : y < 2 ^ 32 = byte_fits y y_byte in
    let fx = fed_lt r x r_fits x_fits in
    let fy = fed_lt r y r_fits y_fits in
    let registers =
    unturned (fold fed (fed r x) after) (fold fed (fed r y) after)
    (folded_lt after (fed r x) after_bytes fx) (folded_lt after (fed r y) after_bytes fy)
    (ap (λ (n : ℕ). start - n) (sym (fold-append fed start before (x ∷ after)))
    ∙ same ∙ ap (λ (n : ℕ). start - n) (fold-append fed start before (y ∷ after))) in
    fed_byte_same r x y r_fits x_fits y_fits (folded_same after (fed r x) (fed r y) after_bytes fx fy registers)
