-- The lines of a whole history, each with the number of its event.
use Rattle.std.specs.Prelude.{ℕ, ◌+◌, List, ◌∷◌, ◌++◌, length, []}
use Rattle.sd_history.specs.World.{Setting}
use Rattle.sd_history.specs.Steps.{Step}
use Rattle.sd_history.specs.Lines.{Line, lines_of}

-- the lines of all events in order, each with the number of its event
abbrev pub numbered : Setting → List Step → List (ℕ × Line)
numbered setting [] = []
numbered setting (s ∷ earlier) = numbered setting earlier ++ number_each (length earlier + 1) (lines_of setting (s ∷ earlier))
  where
    number_each : ℕ → List Line → List (ℕ × Line)
    number_each n [] = []
    number_each n (x ∷ xs) = (n, x) ∷ number_each n xs
