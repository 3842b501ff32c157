-- Laws on the length of the first line.
use Rattle.std.proofs.Common.{◌≡◌, ℕ, ◌+◌, ◌-◌, ◌<◌, ◌≤◌, ◌==◌, Bool, true, false, cond, suc, List, [], ◌∷◌, None, Some, refl, sym, ap, ◌∙◌, length, take, drop, arith, add-one}
use Rattle.std.proofs.lemmas.List.{length-take-le, length-drop}
use Rattle.sd_io.specs.stream.Lines.{line_len, after_line, with_front, lines}
use Rattle.sd_io.specs.stream.Next.{next_of}

-- the end of the first line, seen from one byte before
within_step : (t : Bool) (m n : ℕ) → m ≤ n → cond t 0 (m + 1) ≤ suc n
within_step true m n h = omega arith
within_step false m n h = omega arith

-- a line ends within its text
pub line_len-le-length : (text : List ℕ) → line_len text ≤ length text
line_len-le-length [] = omega arith
line_len-le-length (x ∷ xs) = within_step (x == 10) (line_len xs) (length xs) (line_len-le-length xs)

-- the first line is as long as `line_len` says
pub length-take-line_len : (text : List ℕ) → length (take (line_len text) text) ≡ line_len text
length-take-line_len text = length-take-le (line_len text) text (line_len-le-length text)

-- the next line is the bytes before the first newline
pub next_of-some : (text line : List ℕ) → next_of text ≡ Some line → line ≡ take (line_len text) text
next_of-some [] line e = cc
next_of-some (x ∷ xs) line e = cc

-- a text of which a line is left has bytes
pub next_of-more : (text : List ℕ) → 0 < length text → next_of text ≡ Some (take (line_len text) text)
next_of-more [] h = absurd (omega arith)
next_of-more (x ∷ xs) h = refl

-- the next line is as long as `line_len` says
pub length-next_of : (text line : List ℕ) → next_of text ≡ Some line → length line ≡ line_len text
length-next_of text line e = ap length (next_of-some text line e) ∙ length-take-line_len text

-- no line is left of the empty text alone
pub next_of-none : (text : List ℕ) → next_of text ≡ None → text ≡ []
next_of-none [] e = refl
next_of-none (x ∷ xs) e = cc

-- what is left after the next line is shorter
pub length-after_line : (text : List ℕ) → length (after_line text) ≡ length text - (line_len text + 1)
length-after_line text = length-drop (line_len text + 1) text

-- a text with no line left has no lines
pub lines-none : (text : List ℕ) → next_of text ≡ None → lines text ≡ []
lines-none text e = ap lines (next_of-none text e)

-- one line in front, by what its first byte is
front_step : (t : Bool) (x : ℕ) (xs : List ℕ) (others : List (List ℕ))
    → with_front x others ≡ take (line_len xs + 1) (x ∷ xs) ∷ lines (drop (line_len xs + 1 + 1) (x ∷ xs))
    → others ≡ lines xs
    → cond t ([] ∷ others) (with_front x others) ≡ take (cond t 0 (line_len xs + 1)) (x ∷ xs) ∷ lines (drop (cond t 0 (line_len xs + 1) + 1) (x ∷ xs))
front_step true x xs others h e = ap (λ l. [] ∷ l) e
front_step false x xs others h e = h

-- the lines of a text that is not empty, refused or not, are its next line and the lines after it
pub lines-more : (text : List ℕ) → 0 < length text → lines text ≡ take (line_len text) text ∷ lines (after_line text)
lines-more [] h = absurd (omega arith)
lines-more (x ∷ []) h = front_step (x == 10) x [] [] refl refl
lines-more (x ∷ y ∷ ys) h =
    front_step (x == 10) x (y ∷ ys) (lines (y ∷ ys)) (ap (with_front x) (lines-more (y ∷ ys) (omega arith))
    ∙ (rw (add-one (line_len (y ∷ ys)), add-one (suc (line_len (y ∷ ys)))) refl)) refl

-- the lines of a text are its next line and the lines of what is left after it
pub lines-some : (text line : List ℕ) → next_of text ≡ Some line → lines text ≡ line ∷ lines (after_line text)
lines-some [] line e = cc
lines-some (x ∷ xs) line e = lines-more (x ∷ xs) (omega arith) ∙ ap (λ l. l ∷ lines (after_line (x ∷ xs))) (sym (next_of-some (x ∷ xs) line e))
