-- What is counted, as a number.
use Rattle.std.specs.Prelude.{ℕ, Bool, cond}

-- 1 for what is so, else 0
abbrev pub one_if : Bool → ℕ
one_if so = cond so 1 0
