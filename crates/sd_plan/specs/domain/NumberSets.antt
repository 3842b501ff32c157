-- Sets of numbers below a bound, in the order in which the numbers came.
use Rattle.std.specs.Prelude.{ℕ, List, [], ◌∷◌, ◌++◌, if◌then◌else◌}
use Rattle.sd_num.specs.Lists.{has}

-- what is seen of a set that has room for the numbers below a bound
pub record Numbers : Type 0 where
  pub numbers : List ℕ
  pub bound : ℕ

-- numbers with one more, which comes last where it is new
abbrev pub with_number : List ℕ → ℕ → List ℕ
with_number numbers n = if has numbers n then numbers else numbers ++ n ∷ []
