-- Lemmas that several crates above share.
use Rattle.std.specs.Prelude.{List, [], ◌∷◌}
use Rattle.sd_history.specs.Steps.{Step}

abbrev pub tail_of : List Step → List Step
tail_of [] = []
tail_of (s ∷ steps) = steps
