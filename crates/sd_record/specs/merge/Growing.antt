-- How logs grow by what the lines of a feed say, and what of their merge is settled by then.
use Rattle.std.specs.Prelude.{ℕ, List, [], ◌∷◌, ◌++◌, drop, length, map, max, nat_eq, Option, Some, None, if◌then◌else◌}
use Rattle.std.specs.List.{range_with_len}
use Rattle.sd_num.specs.Lists.{leading}
use Rattle.sd_record.specs.merge.Lines.{LogLine, merge_all, settled_by}

-- What a line of the feed says: the log of a number goes on with an entry of a reference, which stands there in these bytes; or it brings nothing before the
-- reference any more.
pub record Said : Type 0 where
  pub log : ℕ
  pub reference : ℕ
  pub entry : Option (List ℕ)

-- the line that it brings, if it brings one
abbrev pub line_in : (log reference : ℕ) → Option (List ℕ) → List LogLine
line_in log reference None = []
line_in log reference (Some bytes) = record { log = log; reference = reference; bytes = bytes } ∷ []

-- what the lines of a feed have brought to the log of a number, in its order; they come with the newest first
abbrev pub log_of : List Said → ℕ → List LogLine
log_of [] log = []
log_of (s ∷ earlier) log = log_of earlier log ++ (if nat_eq s.log log then line_in s.log s.reference s.entry else [])

-- the log brings nothing before this reference any more
abbrev pub from_of : List Said → ℕ → ℕ
from_of [] log = 0
from_of (s ∷ earlier) log = if nat_eq s.log log then max s.reference (from_of earlier log) else from_of earlier log

module _ (count : ℕ) where
  -- the logs, from number 1 on
  abbrev pub logs_of : List Said → List (List LogLine)
  logs_of taken = map (log_of taken) (range_with_len 1 count)

  -- from which reference on each of them still brings something
  abbrev pub froms_of : List Said → List ℕ
  froms_of taken = map (from_of taken) (range_with_len 1 count)

  -- all of them as one
  abbrev pub merged : List Said → List LogLine
  merged taken = merge_all (logs_of taken)

  -- what is settled of that
  abbrev pub settled : List Said → List LogLine
  settled taken = leading (settled_by 1 (froms_of taken)) (merged taken)

  -- what a line of the feed has settled
  abbrev pub newly_settled : List Said → Said → List LogLine
  newly_settled taken s = drop (length (settled taken)) (settled (s ∷ taken))

  -- what still waits
  abbrev pub waiting : List Said → List LogLine
  waiting taken = drop (length (settled taken)) (merged taken)
