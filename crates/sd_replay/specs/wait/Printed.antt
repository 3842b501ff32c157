-- How the lines of commit wait are printed.
use Rattle.std.specs.Prelude.{ℕ, List, [], ◌∷◌, flat_map, codes, decimal}
use Rattle.sd_num.specs.Texts.{text_of}
use Rattle.sd_device.specs.msg.Observed.{ReportAt}
use Rattle.sd_replay.specs.wait.Waits.{WaitLine, Ended, Disorder, Begin, lines_at}
use Rattle.sd_replay.specs.declared.wait.WaitTally.{WaitTally}

-- the words of a line of a report, with the name of the report's device
abbrev pub words_of : (name : List ℕ) → WaitLine → List (List ℕ)
words_of name (Ended line begin) = codes "ended" ∷ decimal line ∷ decimal begin ∷ []
words_of name (Disorder line begin) = codes "disorder" ∷ decimal line ∷ decimal begin ∷ []
words_of name (Begin line device stamp) = codes "begin" ∷ decimal line ∷ name ∷ decimal stamp ∷ []

-- the lines of report k, with the name of its device
abbrev pub bytes_at : List ReportAt → (k : ℕ) → (name : List ℕ) → List ℕ
bytes_at told k name = flat_map (λ line. text_of (words_of name line)) (lines_at told k)

-- the last line of all: how many began and ended, and how many reports show a disorder
abbrev pub waits_line : WaitTally → List ℕ
waits_line tally = text_of (codes "waits" ∷ decimal tally.begun ∷ decimal tally.ended ∷ decimal tally.disorders ∷ [])
