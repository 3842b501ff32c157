-- What a shelf over memory is seen as.
use Rattle.std.specs.Prelude.{ℕ, Bool, List, nat_eq}
use Rattle.std.specs.List.{list_any}
use Rattle.sd_io.specs.outside.Causes.{raised}
use Rattle.sd_io.specs.outside.Texts.{Files}

-- what is seen of a shelf in memory
pub record Seen : Type 0 where
  pub files : Files
  pub piece : ℕ
  pub failing : List ℕ
  pub calls : ℕ
  pub begun : Bool
  pub rest : List ℕ
  pub faults : ℕ

-- whether the next call is one of those that fail
abbrev pub is_listed : Seen → Bool
is_listed s = list_any (λ n. nat_eq n (raised s.calls)) s.failing
