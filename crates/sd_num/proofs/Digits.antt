-- How far the digits of a text go and what they mean, one byte after the other.
use Rattle.std.proofs.Common.{◌≡◌, ℕ, ◌+◌, ◌-◌, ◌*◌, ◌^◌, ◌<◌, ◌≤◌, Bool, true, false, not, cond, ◌&&◌, List, [], ◌∷◌, Some, None, length, take, drop, get_or, ◌++◌, refl, ap, ◌∙◌, arith, add-one, drop-cons, suc}
use Rattle.std.proofs.Math.Nat.{pow-suc, pow-le-pow_right, one-le-pow}
use Rattle.std.proofs.lemmas.Bool.{le-ltb, lt-ltb, cond-true, cond-false, and_parts, leb-true, ltb-false}
use Rattle.std.proofs.lemmas.List.{drop_all, take_more, length_push}
use Rattle.std.proofs.lemmas.List.Folds.{list_all-append}
use Rattle.std.specs.Prelude.{nat_lt, nat_le}
use Rattle.std.specs.List.{position, list_all}
use Rattle.sd_num.specs.Decimals.{is_digit, value}
use Rattle.sd_num.specs.Digits.{leading_digits}

digit_first : (t : Bool) (i n : ℕ) → t ≡ true → i + cond (not (not t)) (1 + n) 0 ≡ suc i + n
digit_first true i n h = omega arith
digit_first false i n h = cc

-- a digit at i, and those after it
pub leading_digits-drop : (bs : List ℕ) (i : ℕ) → i < length bs → is_digit (get_or bs i 0) ≡ true
    → i + leading_digits (drop i bs) ≡ (i + 1) + leading_digits (drop (i + 1) bs)
leading_digits-drop bs i h t = rw (add-one, drop-cons bs i 0) (digit_first (is_digit (get_or bs i 0)) i (leading_digits (drop (suc i) bs)) t)

regroup : (v d p w : ℕ) → v * (p * 10) + (d * p + w) ≡ (v * 10 + d) * p + w
regroup v d p w = omega arith

-- what a digit more means
pub value-drop : (bs : List ℕ) (i v : ℕ) → i < length bs
    → v * 10 ^ length (drop i bs) + value (drop i bs) ≡ (v * 10 + (get_or bs i 0 - 48)) * 10 ^ length (drop (i + 1) bs) + value (drop (i + 1) bs)
value-drop bs i v h =
    rw (add-one, drop-cons bs i 0, pow-suc 10 (length (drop (suc i) bs)))
    (regroup v (get_or bs i 0 - 48) (10 ^ length (drop (suc i) bs)) (value (drop (suc i) bs)))

-- what digits mean with one more after them
value_push : (bs : List ℕ) (b : ℕ) → value (bs ++ b ∷ []) ≡ value bs * 10 + (b - 48)
value_push [] b = omega arith
value_push (c ∷ bs) b =
    rw (length_push bs b, add-one (length bs), pow-suc 10 (length bs), value_push bs b) (regroup_push (c - 48) (10 ^ length bs) (value bs) (b - 48))
  where
    regroup_push : (d p v w : ℕ) → d * (p * 10) + (v * 10 + w) ≡ (d * p + v) * 10 + w
    regroup_push d p v w = omega arith

-- what the bytes before a place mean with that at the place after them
pub value-take : (bs : List ℕ) (i : ℕ) → i < length bs → value (take (i + 1) bs) ≡ value (take i bs) * 10 + (get_or bs i 0 - 48)
value-take bs i h = ap value (take_more bs i 0 h) ∙ value_push (take i bs) (get_or bs i 0)

-- a digit more after digits
pub digits-take : (bs : List ℕ) (i : ℕ) → i < length bs → list_all is_digit (take i bs) ≡ true → is_digit (get_or bs i 0) ≡ true
    → list_all is_digit (take (i + 1) bs) ≡ true
digits-take bs i h all digit = ap (λ (xs : List ℕ). list_all is_digit xs) (take_more bs i 0 h) ∙ list_all-append is_digit (take i bs) (get_or bs i 0 ∷ [])
    ∙ rw (all, digit) refl

-- one digit more is below the next power of ten
pub digit_more : (v d i : ℕ) → v < 10 ^ i → d < 10 → v * 10 + d < 10 ^ (i + 1)
digit_more v d i h k = rw (add-one i, pow-suc 10 i) (omega arith)

-- nineteen digits are a `u64`
pub digits_fit : (v i : ℕ) → i ≤ 18 → v < 10 ^ i → v * 10 + 9 < 2 ^ 64
digits_fit v i h k =
    let most : 10 ^ i ≤ 10 ^ 18 = pow-le-pow_right (omega arith) h in
    omega (arith, most, k)

-- a digit counts for less than ten
pub digit_small : (b : ℕ) → is_digit b ≡ true → b - 48 < 10
digit_small b t =
    let range : (nat_le 48 b ≡ true) × (nat_le b 57 ≡ true) = and_parts (nat_le 48 b) (nat_le b 57) t in
    omega (arith, leb-true b 57 range.1)

-- a number that a `u64` holds, and one that it does not
pub number_within : (n : ℕ) → n < 2 ^ 64 → cond (nat_lt n (2 ^ 64)) (Some n) None ≡ Some n
number_within n h = cond-true (nat_lt n (2 ^ 64)) (Some n) None (lt-ltb n (2 ^ 64) h)

pub number_past : (n : ℕ) → 2 ^ 64 ≤ n → cond (nat_lt n (2 ^ 64)) (Some n) None ≡ None
number_past n h = cond-false (nat_lt n (2 ^ 64)) (Some n) None (le-ltb n (2 ^ 64) h)

product_grows : (x q w : ℕ) → x ≤ x * (q + 1) + w
product_grows x q w = omega arith

-- what digits mean is no less than what those at the front mean
pub front_below : (v k w n : ℕ) → n ≡ v * 10 ^ k + w → v ≤ n
front_below v k w n e =
    let some : 1 ≤ 10 ^ k = one-le-pow k 10 (omega arith) in
    let next : 10 ^ k ≡ (10 ^ k - 1) + 1 = omega arith in
    rw (e, next) (product_grows v (10 ^ k - 1) w)

-- the first of the digits from a place on, and those after it
pub list_all_first : (p : ℕ → Bool) (bs : List ℕ) (i : ℕ) → i < length bs → list_all p (drop i bs) ≡ true
    → (p (get_or bs i 0) ≡ true) × (list_all p (drop (i + 1) bs) ≡ true)
list_all_first p bs i h all = rw (add-one i) (and_parts (p (get_or bs i 0)) (list_all p (drop (suc i) bs)) (rw (drop-cons bs i 0) at all))

-- after the last byte nothing is left to count
pub value-drop_all : (bs : List ℕ) (i v n : ℕ) → length bs ≤ i → n ≡ v * 10 ^ length (drop i bs) + value (drop i bs) → n ≡ v
value-drop_all bs i v n h e = let met : n ≡ v * 10 ^ 0 + 0 = rw (drop_all i bs h) at e in omega (arith, met)

-- so far a `u64` holds the number, and with a digit more it does not
pub past_with_digit : (bs : List ℕ) (i v n : ℕ) → i < length bs → n ≡ v * 10 ^ length (drop i bs) + value (drop i bs) → 2 ^ 64 ≤ v * 10 + (get_or bs i 0 - 48)
    → cond (nat_lt n (2 ^ 64)) (Some n) None ≡ None
past_with_digit bs i v n h e past =
    let front : v * 10 + (get_or bs i 0 - 48) ≤ n =
    front_below (v * 10 + (get_or bs i 0 - 48)) (length (drop (i + 1) bs)) (value (drop (i + 1) bs)) n (e ∙ value-drop bs i v h) in
    number_past n (omega (arith, front, past))

digits_step : (t all : Bool) (n len : ℕ) → suc len ≤ cond (not (not t)) (1 + n) 0 → (len ≤ n → all ≡ true) → (t && all) ≡ true
digits_step true all n len h f = f (omega arith)
digits_step false all n len h f = absurd (omega arith)

all_digits : (bs : List ℕ) → length bs ≤ leading_digits bs → list_all is_digit bs ≡ true
all_digits [] h = refl
all_digits (b ∷ bs) h = digits_step (is_digit b) (list_all is_digit bs) (leading_digits bs) (length bs) h (all_digits bs)

none_from : (t : Bool) (i : ℕ) → cond t (Some i) None ≡ None → t ≡ false
none_from true i e = cc
none_from false i e = refl

-- where no byte is other than a digit, all are digits
pub digits_from_none : (bs : List ℕ) → position (λ b. not (is_digit b)) bs ≡ None → list_all is_digit bs ≡ true
digits_from_none bs e = all_digits bs (ltb-false (leading_digits bs) (length bs) (none_from (nat_lt (leading_digits bs) (length bs)) (leading_digits bs) e))
