-- What a shelf that never fails is seen as.
use Rattle.std.specs.Prelude.{ℕ, Bool, List}
use Rattle.sd_io.specs.outside.Texts.{Files}

-- what is seen of a shelf that never fails
pub record Reading : Type 0 where
  pub files : Files
  pub begun : Bool
  pub rest : List ℕ
