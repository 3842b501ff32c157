-- What was found among the first bytes holds of the whole text.
use Rattle.std.proofs.Common.{◌≡◌, ℕ, ◌+◌, ◌-◌, ◌<◌, ◌≤◌, ◌==◌, Bool, true, false, cond, zero, suc, min, List, [], ◌∷◌, ◌++◌, Option, None, Some, refl, sym, ap, length, take, drop, slice_range, unwrap_or, arith}
use Rattle.memchr.specs.Find.{IsFirstByte, Passes, is_byte}
use Rattle.sd_io.specs.stream.Lines.{line_len}

-- one more byte that is no newline
other_step : (t : Bool) (m n : ℕ) → (t ≡ true → ⊥) → m ≡ n → cond t 0 (m + 1) ≡ suc n
other_step true m n absent e = absurd (absent refl)
other_step false m n absent e = omega arith

-- a newline in first place
newline_step : (t : Bool) (m : ℕ) → t ≡ true → cond t 0 m ≡ 0
newline_step true m e = refl
newline_step false m e = cc

-- with no newline all bytes are of the line
line_len_none : (xs : List ℕ) → ((k : ℕ) → k < length xs → Passes (is_byte 10) xs k → ⊥) → line_len xs ≡ length xs
line_len_none [] absent = refl
line_len_none (x ∷ xs) absent = other_step (x == 10) (line_len xs) (length xs) (absent 0 (omega arith)) (line_len_none xs (λ k h. absent (suc k) (omega arith)))

-- the first newline ends the line
line_len_at : (xs : List ℕ) (k : ℕ) → k < length xs → ((j : ℕ) → j < k → Passes (is_byte 10) xs j → ⊥) → Passes (is_byte 10) xs k → line_len xs ≡ k
line_len_at [] k h absent is = absurd (omega arith)
line_len_at (x ∷ xs) zero h absent is = newline_step (x == 10) (line_len xs + 1) is
line_len_at (x ∷ xs) (suc k) h absent is =
    other_step (x == 10) (line_len xs) k (absent 0 (omega arith)) (line_len_at xs k (omega arith) (λ j l. absent (suc j) (omega arith)) is)

-- the answer of a search for a newline
pub line_len_found : (xs : List ℕ) (r : Option ℕ) → IsFirstByte (is_byte 10) xs r → unwrap_or r (length xs) ≡ line_len xs
line_len_found xs None h = sym (line_len_none xs (λ k l. h k (omega arith) l))
line_len_found xs (Some k) h = sym (line_len_at xs k h.0.high (λ j l. h.0.before j (omega arith) l) h.1)

-- one byte passed
drop_step : (t : Bool) (s m d : ℕ) → suc s ≤ cond t 0 (m + 1) → (s ≤ m → s + d ≡ m) → suc s + d ≡ cond t 0 (m + 1)
drop_step true s m d h f = absurd (omega arith)
drop_step false s m d h f = let e : s + d ≡ m = f (omega arith) in omega arith

-- a line, seen from a place within it
line_len-drop : (xs : List ℕ) (s : ℕ) → s ≤ line_len xs → s + line_len (drop s xs) ≡ line_len xs
line_len-drop xs zero h = omega arith
line_len-drop [] (suc s) h = absurd (omega arith)
line_len-drop (x ∷ xs) (suc s) h = drop_step (x == 10) s (line_len xs) (line_len (drop s xs)) h (line_len-drop xs s)

-- one byte kept
take_step : (t : Bool) (n m l : ℕ) → l ≡ min n m → cond t 0 (l + 1) ≡ min (suc n) (cond t 0 (m + 1))
take_step true n m l e = omega arith
take_step false n m l e = omega arith

-- a line that is cut off
pub line_len-take : (n : ℕ) (xs : List ℕ) → line_len (take n xs) ≡ min n (line_len xs)
line_len-take zero xs = omega arith
line_len-take (suc n) [] = omega arith
line_len-take (suc n) (x ∷ xs) = take_step (x == 10) n (line_len xs) (line_len (take n xs)) (line_len-take n xs)

-- a search from a place within the line up to a place finds the line's end, or that place
pub line_len_window : (xs : List ℕ) (s r : ℕ) → s ≤ line_len xs → s ≤ r → s + line_len (slice_range xs s r) ≡ min r (line_len xs)
line_len_window xs s r h k =
    let cut = line_len-take (r - s) (drop s xs) in
    let whole = line_len-drop xs s h in
    omega arith

-- one byte in front of a line that ends
append_step : (t : Bool) (m n k : ℕ) → cond t 0 (m + 1) < suc k → (m < k → n ≡ m) → cond t 0 (n + 1) ≡ cond t 0 (m + 1)
append_step true m n k h f = refl
append_step false m n k h f = ap (λ i. i + 1) (f (omega arith))

-- a newline in the front ends the line, whatever follows
pub line_len-append : (b y : List ℕ) → line_len b < length b → line_len (b ++ y) ≡ line_len b
line_len-append [] y h = absurd (omega arith)
line_len-append (x ∷ xs) y h = append_step (x == 10) (line_len xs) (line_len (xs ++ y)) (length xs) h (line_len-append xs y)

-- one byte in front of two lines
longer_step : (t : Bool) (m n : ℕ) → m ≤ n → cond t 0 (m + 1) ≤ cond t 0 (n + 1)
longer_step true m n h = omega arith
longer_step false m n h = omega arith

-- a line gets no shorter by what follows
pub line_len-le-append : (b y : List ℕ) → line_len b ≤ line_len (b ++ y)
line_len-le-append [] y = omega arith
line_len-le-append (x ∷ xs) y = longer_step (x == 10) (line_len xs) (line_len (xs ++ y)) (line_len-le-append xs y)
