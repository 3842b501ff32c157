-- Which turns are kept, and which of them is the first.
use Rattle.std.specs.Prelude.{◌≡◌, ◌≤◌, ◌&&◌, ℕ, Bool, true, List, get_or, length, nat_eq, nat_lt}
use Rattle.std.specs.BTreeSet.{contains}
use Rattle.sd_record.specs.merge.Queues.{Queue, bound_of, new_queue}
use Rattle.sd_record.specs.merge.TurnOrder.{by_turn}
use Rattle.sd_record.specs.declared.merge.turns.Turn.{Turn}
use Rattle.sd_record.specs.declared.merge.turns.Turns.{Turns}

-- a log has its turn at this bound and place
abbrev pub has_turn : Turns → (bound place : ℕ) → Bool
has_turn turns bound place = contains by_turn turns.turns (record { bound = bound; place = place })

-- it is one of them, and none is earlier
pub record IsFirstTurn (turns : Turns) (turn : Turn) : Type 0 where
  pub is : has_turn turns turn.bound turn.place ≡ true
  pub least : (bound place : ℕ) → has_turn turns bound place ≡ true → turn.bound ≤ bound
  pub tied : (bound place : ℕ) → has_turn turns bound place ≡ true → bound ≡ turn.bound → turn.place ≤ place

-- nothing is to come of the log at the place before this bound
abbrev pub is_bound : List Queue → (bound place : ℕ) → Bool
is_bound queues bound place = nat_lt place (length queues) && nat_eq (bound_of (get_or queues place new_queue)) bound

-- each log has its turn by its bound, and there is no other turn
abbrev pub AreTurns : Turns → List Queue → Type 0
AreTurns turns queues = (bound place : ℕ) → has_turn turns bound place ≡ is_bound queues bound place
