-- What is seen of spoiled rounds.
use Rattle.std.specs.Prelude.{ℕ, Bool, Option}
use Rattle.std.specs.HashMap.{spare}
use Rattle.sd_monitors.specs.loss.flights.RunsKept.{beside, is_there}
use Rattle.sd_monitors.specs.declared.loss.flights.runs.Runs.{Runs}

-- what stands beside the round of the term
abbrev pub end_beside : Runs → ℕ → ℕ → Option ℕ
end_beside runs term round = beside runs.ends term round

-- the round of the term is spoiled
abbrev pub has_round : Runs → ℕ → ℕ → Bool
has_round runs term round = is_there runs.ends term round

-- for how many more rounds there is room
abbrev pub room_of : Runs → ℕ
room_of runs = spare runs.ends
