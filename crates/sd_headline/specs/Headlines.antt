-- The sentences of the headline on bytes: what is promised of the lines that a run has written.
use Rattle.std.specs.Prelude.{ℕ, Bool, true, false, ◌&&◌, ◌||◌, not, List, [], ◌∷◌, nat_eq, Option, codes, IsTrue, if◌then◌else◌}
use Rattle.std.specs.List.{concat, list_all}
use Rattle.std.specs.Str.{bytes_eq}
use Rattle.sd_io.specs.outside.Pieces.{AddsPieces, Pieces}
use Rattle.sd_num.specs.Lists.{at_place}
use Rattle.sd_sched.specs.Lines.{fields}

-- Lines

-- a byte before the first of the lines; where there is none it stands in a line that was cut off
abbrev pub with_front : ℕ → List (List ℕ) → List (List ℕ)
with_front byte [] = []
with_front byte (line ∷ others) = (byte ∷ line) ∷ others

-- the lines of a text that end with their newline, without it: a line that was cut off is none of them
abbrev pub whole_lines : List ℕ → List (List ℕ)
whole_lines [] = []
whole_lines (byte ∷ bytes) = if nat_eq byte 10 then [] ∷ whole_lines bytes else with_front byte (whole_lines bytes)

-- the word at a place of a line, counted from 0, is this one
abbrev pub has_word : ℕ → List ℕ → List ℕ → Bool
has_word place word line = at_place (fields line) place false (bytes_eq word)

-- `alarm ..`
abbrev pub is_alarm : List ℕ → Bool
is_alarm line = has_word 0 (codes "alarm") line

-- `alarm N interval ..`
abbrev pub is_interval_alarm : List ℕ → Bool
is_interval_alarm line = is_alarm line && has_word 2 (codes "interval") line

-- `disorder ..`
abbrev pub is_disorder : List ℕ → Bool
is_disorder line = has_word 0 (codes "disorder") line

-- `broken ..`
abbrev pub is_broken : List ℕ → Bool
is_broken line = has_word 0 (codes "broken") line

-- `broken N start`, `broken N drift` or `broken N delay`
abbrev pub is_dishonest : List ℕ → Bool
is_dishonest line = is_broken line && (has_word 2 (codes "start") line || has_word 2 (codes "drift") line || has_word 2 (codes "delay") line)

-- Sentences

-- none of those that pass the first test stands before the first that passes the second
abbrev pub none_before : {A : Type 0} → (A → Bool) → (A → Bool) → List A → Bool
none_before bad first [] = true
none_before bad first (x ∷ others) = if first x then true else not (bad x) && none_before bad first others

-- no alarm line stands before the first broken line
abbrev pub no_early_alarm : List ℕ → Bool
no_early_alarm text = none_before is_alarm is_broken (whole_lines text)

-- no line of an interval without its reference stands before the first broken line of start, drift or delay
abbrev pub no_early_interval : List ℕ → Bool
no_early_interval text = none_before is_interval_alarm is_dishonest (whole_lines text)

-- no disorder line stands before the first broken line of start, drift or delay
abbrev pub no_early_disorder : List ℕ → Bool
no_early_disorder text = none_before is_disorder is_dishonest (whole_lines text)

-- in a line `case E R G B A` the alarms are 0 where the broken lines are 0
abbrev pub is_calm_case : List ℕ → Bool
is_calm_case line = not (has_word 0 (codes "case") line && has_word 4 (codes "0") line) || has_word 5 (codes "0") line

-- so it is in each line of the text
abbrev pub no_case_alarm : List ℕ → Bool
no_case_alarm text = list_all is_calm_case (whole_lines text)

-- Of a run

-- the bytes that were added, by all writes together, pass the test
abbrev pub Adds : Option Pieces → Option Pieces → (List ℕ → Bool) → Type 0
Adds old new test = (added : Pieces) × AddsPieces old new added × IsTrue (test (concat added))
