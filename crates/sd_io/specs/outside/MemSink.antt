-- What a sink over memory is seen as, and what each of its writes keeps.
use Rattle.std.specs.Prelude.{ℕ, ◌+◌, ◌-◌, min, List, [], ◌∷◌, Option, None, Some, nat_eq, if◌then◌else◌, length, take, drop, unwrap_or}
use Rattle.sd_io.specs.outside.Causes.{raised}
use Rattle.sd_io.specs.outside.Pieces.{Pieces}

-- what is seen of a sink in memory
pub record Kept : Type 0 where
  pub pieces : Pieces
  pub bytes : List ℕ
  pub room : ℕ
  pub failing : List (ℕ × ℕ)
  pub calls : ℕ
  pub faults : ℕ

-- how many bytes these are together
abbrev pub total : List ℕ → ℕ
total [] = 0
total (n ∷ ns) = n + total ns

-- bytes in pieces of this many bytes each
abbrev pub cut_by : List ℕ → List ℕ → Pieces
cut_by [] bytes = []
cut_by (n ∷ ns) bytes = take n bytes ∷ cut_by ns (drop n bytes)

-- how many bytes a write keeps, where it is listed: the first of two entries with one number counts
abbrev pub kept_in : List (ℕ × ℕ) → ℕ → Option ℕ
kept_in [] call = None
kept_in (f ∷ fs) call = if nat_eq f.0 call then Some f.1 else kept_in fs call

-- how many bytes the next write keeps, where it is listed
abbrev pub listed_count : Kept → Option ℕ
listed_count s = kept_in s.failing (raised s.calls)

-- the room that is left
abbrev pub room_left : Kept → ℕ
room_left s = s.room - length s.bytes

-- how many of its bytes the next write adds: as many as it has, as there is room for, and as the list says where it is listed
abbrev pub added_count : Kept → List ℕ → ℕ
added_count s bytes = min (unwrap_or (listed_count s) (length bytes)) (min (length bytes) (room_left s))
