-- What is kept of spoiled rounds.
use Rattle.std.specs.Prelude.{ℕ, Bool, ◌&&◌, Option, is_some, nat_eq}
use Rattle.std.specs.HashMap.{HashMap, get}
use Rattle.std.specs.declared.hash.FoldHasher.{FoldHasher}
use Rattle.std.specs.declared.hash.BuildHasherDefault.{BuildHasherDefault}
use Rattle.sd_monitors.specs.loss.flights.Runs.{AreRuns}

-- beside a term and a round stands the other end of the round's run
abbrev pub Ends : Type 0
Ends = HashMap (ℕ × ℕ) ℕ (BuildHasherDefault FoldHasher)

-- rounds as the map compares them
abbrev pub same_round : ℕ × ℕ → ℕ × ℕ → Bool
same_round x y = nat_eq x.0 y.0 && nat_eq x.1 y.1

-- what stands beside the round of the term
abbrev pub beside : Ends → ℕ → ℕ → Option ℕ
beside ends term round = get same_round ends (term, round)

-- the round of the term is there
abbrev pub is_there : Ends → ℕ → ℕ → Bool
is_there ends term round = is_some (beside ends term round)

-- the rounds of each term are runs
abbrev pub AllRuns : Ends → Type 0
AllRuns ends = (term : ℕ) → AreRuns (beside ends term)
