-- What waits of each log, by its place, and which of it is settled.
use Rattle.std.specs.Prelude.{◌≡◌, ◌≤◌, ◌<◌, ℕ, ◌+◌, ◌-◌, ◌^◌, true, All, List, [], ◌∷◌, ◌++◌, drop, get_or, length, map, max, Option, Some, None}
use Rattle.sd_num.specs.Lists.{leading}
use Rattle.sd_record.specs.merge.Lines.{LogLine, merge_all, settled_by, text_of_lines}

-- the lines of a log that wait, and the reference before which it brings nothing any more
pub record Queue : Type 0 where
  pub from : ℕ
  pub waiting : List LogLine

-- a log of which nothing is known
abbrev pub new_queue : Queue
new_queue = record { from = 0; waiting = [] }

-- a log has gone past a reference
abbrev pub passed : ℕ → Queue → Queue
passed reference q = record { from = max reference q.from; waiting = q.waiting }

-- a log has gone on with a line
abbrev pub pushed : LogLine → Queue → Queue
pushed x q = record { from = max x.reference q.from; waiting = q.waiting ++ x ∷ [] }

-- a log that has ended: no line comes before this reference
abbrev pub ended : Queue → Queue
ended q = record { from = 2 ^ 64 - 1; waiting = q.waiting }

abbrev pub froms : List Queue → List ℕ
froms queues = map (λ q. q.from) queues

-- all that waits, as one
abbrev pub merged_waiting : List Queue → List LogLine
merged_waiting queues = merge_all (map (λ q. q.waiting) queues)

-- what of it is settled
abbrev pub settled_front : List Queue → List LogLine
settled_front queues = leading (settled_by 1 (froms queues)) (merged_waiting queues)

-- the reference of the first of these lines, or else another one
abbrev pub first_or : ℕ → List LogLine → ℕ
first_or from [] = from
first_or from (x ∷ xs) = x.reference

-- before this reference nothing is to come of a log
abbrev pub bound_of : Queue → ℕ
bound_of q = first_or q.from q.waiting

-- the same once the first line of the log has left
abbrev pub next_bound : Queue → ℕ
next_bound q = first_or q.from (drop 1 q.waiting)

abbrev pub bounds_of : List Queue → List ℕ
bounds_of queues = map bound_of queues

-- the line is one of the log of this number, which has come to this reference
pub record IsReached (number from : ℕ) (x : LogLine) : Type 0 where
  pub of_log : x.log ≡ number
  pub reached : x.reference ≤ from
  pub within : x.reference ≤ 2 ^ 60

-- what waits is of the log at its place
abbrev pub AreKept : List Queue → Type 0
AreKept queues = (k : ℕ) → k < length queues → All (IsReached (k + 1) (get_or queues k new_queue).from) (get_or queues k new_queue).waiting

-- the place of the first of the least numbers
pub record IsFirstLeast (numbers : List ℕ) (place : ℕ) : Type 0 where
  pub within : place < length numbers
  pub before : (k : ℕ) → k < place → get_or numbers place 0 < get_or numbers k 0
  pub least : (k : ℕ) → k < length numbers → get_or numbers place 0 ≤ get_or numbers k 0

-- a settled line left the front, which is the earliest that waits, or none is settled
abbrev pub PopsSettled : (old new : List Queue) → Option LogLine → Type 0
PopsSettled old new None = (new ≡ old) × (AreKept old → settled_front old ≡ [])
PopsSettled old new (Some x) =
    (merged_waiting old ≡ x ∷ merged_waiting new) × (froms new ≡ froms old) × (AreKept old → (settled_by 1 (froms old) x ≡ true) × AreKept new)

-- these lines left the front, all of which are settled, and were added to a text
pub record HasLeft (old new : List Queue) (before after : List ℕ) : Type 0 where
  pub done : List LogLine
  pub lines : merged_waiting old ≡ done ++ merged_waiting new
  pub same : froms new ≡ froms old
  pub settled : AreKept old → settled_front old ≡ done ++ settled_front new
  pub kept : AreKept old → AreKept new
  pub text : after ≡ before ++ text_of_lines done

-- all of the lines that are settled left the front, and were added to a text
pub record HasSettled (old new : List Queue) (before after : List ℕ) : Type 0 where
  pub left : HasLeft old new before after
  pub all : AreKept old → settled_front new ≡ []
