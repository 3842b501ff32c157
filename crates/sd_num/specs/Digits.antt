-- How many digits a text begins with.
use Rattle.std.specs.Prelude.{ℕ, not, List}
use Rattle.std.specs.List.{position_or_len}
use Rattle.sd_num.specs.Decimals.{is_digit}

-- how many digits stand at the front
abbrev pub leading_digits : List ℕ → ℕ
leading_digits bytes = position_or_len (λ b. not (is_digit b)) bytes
