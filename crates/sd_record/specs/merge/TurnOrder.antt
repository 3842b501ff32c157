-- In which order logs have their turns.
use Rattle.std.specs.Prelude.{ℕ, Bool, ◌&&◌, nat_eq}
use Rattle.std.specs.Ordering.{nat_cmp, ordering_then}
use Rattle.std.specs.declared.cmp.Ordering.{Ordering}
use Rattle.sd_record.specs.declared.merge.turns.Turn.{Turn}

-- by the bound, and of equal bounds the earlier log first
abbrev pub by_turn : Turn → Turn → Ordering
by_turn x y = ordering_then (nat_cmp x.bound y.bound) (nat_cmp x.place y.place)

-- it is the turn of the log at this place, with this bound
abbrev pub is_turn : Turn → (bound place : ℕ) → Bool
is_turn turn bound place = nat_eq turn.bound bound && nat_eq turn.place place
