-- The bytes that words and lines are made of.
use Rattle.std.specs.Prelude.{ℕ, Bool, List, nat_le, nat_lt}
use Rattle.std.specs.List.{list_all}

-- each byte lies above the space, so that there is neither a space nor a newline
abbrev pub is_plain : List ℕ → Bool
is_plain bytes = list_all (nat_lt 32) bytes

-- there is no newline, nor any other byte below the space
abbrev pub is_one_line : List ℕ → Bool
is_one_line bytes = list_all (nat_le 32) bytes
