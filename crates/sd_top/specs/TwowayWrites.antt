-- What `twoway` may write, write by write.
use Rattle.std.specs.Prelude.{ℕ, List}
use Rattle.sd_files.specs.Answering.{InWrites, MayWrite}
use Rattle.sd_top.specs.Twoways.{IsTwoway, TwowayInSteps}

-- what `twoway` may write, write by write
abbrev pub TwowayIn : List ℕ → List ℕ → MayWrite
TwowayIn topology exchanges = InWrites (TwowayInSteps topology exchanges) (IsTwoway topology exchanges)
