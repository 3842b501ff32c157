-- A line that ends in the window of a reader.
use Rattle.std.proofs.Common.{◌≡◌, ◌∙◌, ℕ, ◌+◌, ◌-◌, ◌^◌, ◌<◌, ◌≤◌, ◌==◌, Bool, true, false, cond, not, List, [], ◌∷◌, Some, None, refl, arith, length, take}
use Rattle.std.proofs.lemmas.List.{length-take, take-take}
use Rattle.std.specs.Prelude.{nat_eq, nat_lt}
use Rattle.std.specs.List.{position, position_or_len}
use Rattle.std.proofs.lemmas.Bool.{ltb-true}
use Rattle.sd_io.specs.stream.Lines.{line_len}
use Rattle.sd_io.specs.stream.Findings.{IsLine}
use Rattle.sd_io.specs.stream.Windows.{EndsAt}
use Rattle.sd_io.proofs.stream.Found.{line_len-take}
use Rattle.sd_io.proofs.stream.Judged.{judged_line}

-- it is a line of the bytes that wait, within every limit
pub line_in_window : (before : ℕ) (bytes : List ℕ) (len : ℕ) → before ≤ 2 ^ 32 → EndsAt (take (2 ^ 32 - before) bytes) len → IsLine before bytes len
line_in_window before bytes len within at =
    let cut = line_len-take (2 ^ 32 - before) bytes in
    let most = length-take (2 ^ 32 - before) bytes in
    judged_line before bytes len (len + 1) (omega (arith, at.len_is, at.ends, cut, most)) (omega arith) (omega (arith, at.ends, most))
    (omega (arith, at.short)) (omega (arith, at.ends, most))

-- and its bytes are the same there
pub line_of_window : (before : ℕ) (bytes : List ℕ) (len : ℕ) → EndsAt (take (2 ^ 32 - before) bytes) len → take len (take (2 ^ 32 - before) bytes) ≡ take len bytes
line_of_window before bytes len at =
    let most = length-take (2 ^ 32 - before) bytes in
    take-take len (2 ^ 32 - before) bytes (omega (arith, at.ends, most))

-- the first newline ends the line
line_len_position : (bytes : List ℕ) → line_len bytes ≡ position_or_len (λ byte. nat_eq byte 10) bytes
line_len_position [] = refl
line_len_position (byte ∷ bytes) = step (byte == 10) (line_len bytes) (position_or_len (λ b. nat_eq b 10) bytes) (line_len_position bytes)
  where
    step : (t : Bool) (m n : ℕ) → m ≡ n → cond t 0 (m + 1) ≡ cond (not t) (1 + n) 0
    step true m n same = refl
    step false m n same = omega (arith, same)

-- a line that ends at the first newline
pub ends_at : (text : List ℕ) (len : ℕ) → position (λ byte. nat_eq byte 10) text ≡ Some len → len ≤ 4096 → EndsAt text len
ends_at text len found short = go (nat_lt place (length text)) refl found
  where
    place : ℕ
    place = position_or_len (λ byte. nat_eq byte 10) text

    go : (inside : Bool) → nat_lt place (length text) ≡ inside → cond inside (Some place) None ≡ Some len → EndsAt text len
    go true is found =
        let same : place ≡ len = cc in
        let before : place < length text = ltb-true place (length text) is in
        record { len_is = line_len_position text ∙ same; ends = omega (arith, same, before); short = short }
    go false is found = absurd (cc)
