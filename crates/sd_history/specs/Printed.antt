-- What is printed for a whole history.
use Rattle.std.specs.Prelude.{ℕ, List, ◌∷◌, ◌++◌, []}
use Rattle.sd_sched.specs.declared.Event.{Event}
use Rattle.sd_history.specs.World.{Setting}
use Rattle.sd_history.specs.Steps.{Step}
use Rattle.sd_history.specs.Chronicle.{chronicle}
use Rattle.sd_history.specs.Text.{bytes_of, done_bytes}

-- what is printed for all events
abbrev pub all_bytes : Setting → List Step → List ℕ
all_bytes setting [] = []
all_bytes setting (s ∷ earlier) = all_bytes setting earlier ++ bytes_of setting (s ∷ earlier)

-- what is printed for a history that has ended
abbrev pub printed_of : Setting → List Event → List ℕ
printed_of setting history = all_bytes setting (chronicle setting history) ++ done_bytes (chronicle setting history)
