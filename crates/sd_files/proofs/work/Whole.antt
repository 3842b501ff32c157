-- What is made of lines is whole lines.
use Rattle.std.proofs.Common.{◌≡◌, ℕ, true, List, [], ◌∷◌, ◌++◌, refl}
use Rattle.std.specs.List.{join_with_byte}
use Rattle.sd_num.specs.Texts.{text_of}
use Rattle.sd_files.specs.work.Leaving.{are_lines}

ends_whole : (bytes : List ℕ) → are_lines (bytes ++ 10 ∷ []) ≡ true
ends_whole [] = refl
ends_whole (byte ∷ []) = refl
ends_whole (byte ∷ next ∷ bytes) = ends_whole (next ∷ bytes)

-- a line of words
pub text_whole : (words : List (List ℕ)) → are_lines (text_of words) ≡ true
text_whole words = ends_whole (join_with_byte 32 words)

-- whole lines after whole lines
pub append_whole : (bytes more : List ℕ) → are_lines bytes ≡ true → are_lines more ≡ true → are_lines (bytes ++ more) ≡ true
append_whole [] more whole others = others
append_whole (byte ∷ []) [] whole others = whole
append_whole (byte ∷ []) (next ∷ more) whole others = others
append_whole (byte ∷ next ∷ bytes) more whole others = append_whole (next ∷ bytes) more whole others
