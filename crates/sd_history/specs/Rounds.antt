-- Rounds that were lost.
use Rattle.std.specs.Prelude.{ℕ, Bool, List}
use Rattle.std.specs.List.{list_any}
use Rattle.sd_history.specs.World.{Seen}
use Rattle.sd_history.specs.Premises.{spoiled_rounds, is_round}

-- some message of the round is spoiled
abbrev pub is_spoiled : List Seen → ℕ → ℕ → Bool
is_spoiled seen term round = list_any (λ other. is_round other term round) (spoiled_rounds seen)
