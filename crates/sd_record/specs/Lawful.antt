-- What is promised of the histories that the lines of a log leave.
use Rattle.std.specs.Prelude.{◌≡◌, ℕ, List, [], ◌∷◌, length, slice_index_or, Ok}
use Rattle.sd_sched.specs.declared.Event.{Event}
use Rattle.sd_history.specs.World.{Setting}
use Rattle.sd_history.specs.Chronicle.{IsHistory}
use Rattle.sd_record.specs.logs.Lines.{entry_of_line}
use Rattle.sd_record.specs.declared.logs.Entry.{Entry}
use Rattle.sd_io.specs.stream.Lines.{lines}
use Rattle.sd_files.specs.work.Works.{reading}
use Rattle.sd_record.specs.Laws.{IsRecordOf}
use Rattle.sd_record.specs.Works.{latest, record_work}

-- the history is the record of the entry of this line, after the one before, and each of its events is accepted after those before it
pub record IsLineRecorded (setting : Setting) (line : List ℕ) (before after : List Event) : Type 0 where
  pub entry : Entry
  pub says : entry_of_line line ≡ Ok entry
  pub lawful : IsRecordOf setting entry before after
  pub accepted : IsHistory setting after

-- so is each of these histories, of which the newest comes first, for the line in its place
abbrev pub AreRecorded : Setting → List (List ℕ) → List (List Event) → Type 0
AreRecorded setting texts [] = Unit {0}
AreRecorded setting texts (events ∷ earlier) =
    AreRecorded setting texts earlier × IsLineRecorded setting (slice_index_or texts (length earlier) []) (latest earlier) events

-- the law of a log: each line that is accepted is recorded so
abbrev pub LogIsRecorded : Type 0
LogIsRecorded = (setting : Setting) (log : List ℕ) → AreRecorded setting (lines log) (reading (record_work setting) log).taken
