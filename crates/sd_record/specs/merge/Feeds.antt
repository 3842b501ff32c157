-- What a line of a feed says after those before it, or why it is refused.
use Rattle.std.specs.Prelude.{ℕ, ◌+◌, Bool, List, drop, length, nat_le, nat_lt, Option, Some, None, Result, Ok, Err, codes, if◌then◌else◌}
use Rattle.sd_num.specs.Lists.{map_or}
use Rattle.sd_num.specs.Decimals.{number}
use Rattle.sd_sched.specs.Lines.{first_field, limit, number_within, same_bytes}
use Rattle.sd_sched.specs.declared.LineFault.{LineFault}
use Rattle.sd_sched.specs.declared.words.Field.TheVariants.{Amount}
use Rattle.sd_record.specs.logs.Entries.{reference_in}
use Rattle.sd_record.specs.logs.Lines.{at_end, entry_of_line, next_number}
use Rattle.sd_record.specs.logs.Then.{◌>>=◌}
use Rattle.sd_record.specs.merge.Growing.{Said, from_of}
use Rattle.sd_record.specs.declared.merge.feed.FeedFault.{FeedFault}
use Rattle.sd_record.specs.declared.merge.feed.FeedFault.TheVariants.{Line, OutOfOrder, UnknownLog}
use Rattle.sd_record.specs.declared.merge.feed.Told.{Told}
use Rattle.sd_record.specs.declared.merge.feed.Told.TheVariants.{EntryAt, PastAt}

-- the logs are numbered from 1
abbrev pub from_one : ℕ → Option ℕ
from_one n = if nat_le 1 n then Some n else None

-- the number of the log at the front of a line, where there are this many logs
abbrev pub log_number : (count : ℕ) → List ℕ → Option ℕ
log_number count line = map_or (number_within count (number (first_field line))) None from_one

-- what follows it
abbrev pub behind_number : List ℕ → List ℕ
behind_number line = drop (length (first_field line) + 1) line

-- the reference after the word `past`, which ends the line
abbrev pub past_in : List ℕ → Result Told LineFault
past_in behind = next_number 1 (limit Amount) behind >>= (λ reference. at_end (PastAt reference.0) reference.1)

-- the reference of an entry
abbrev pub entry_in : List ℕ → Result Told LineFault
entry_in bytes = entry_of_line bytes >>= (λ entry. Ok (EntryAt (reference_in entry)))

-- the word says that a log has gone past a reference
unfoldable pub is_past : List ℕ → Bool
is_past word = same_bytes (codes "past") word

-- the reference that is told
abbrev pub reference_told : Told → ℕ
reference_told (EntryAt reference) = reference
reference_told (PastAt reference) = reference

-- what is told of a log
unfoldable pub told_in : List ℕ → Result Told LineFault
told_in bytes =
    if is_past (first_field bytes) then past_in (drop (length (first_field bytes)) bytes) else entry_in bytes

-- a log whose references do not fall brings no entry before the reference that it has reached
abbrev pub placed : List Said → (log : ℕ) → (bytes : List ℕ) → Told → Result Said FeedFault
placed taken log bytes (PastAt reference) = Ok (record { log = log; reference = reference; entry = None })
placed taken log bytes (EntryAt reference) =
    if nat_lt reference (from_of taken log) then Err OutOfOrder else Ok (record { log = log; reference = reference; entry = Some bytes })

-- what is told, of the log of this number
abbrev pub said_of : List Said → (log : ℕ) → (bytes : List ℕ) → Result Told LineFault → Result Said FeedFault
said_of taken log bytes (Err fault) = Err (Line fault)
said_of taken log bytes (Ok told) = placed taken log bytes told

-- what a line says, where there are this many logs, or why it is refused
abbrev pub said : (count : ℕ) → List Said → List ℕ → Result Said FeedFault
said count taken line =
    map_or (log_number count line) (Err UnknownLog) (λ log. said_of taken log (behind_number line) (told_in (behind_number line)))
