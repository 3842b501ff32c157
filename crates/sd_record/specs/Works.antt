-- What is recorded of the lines of a log, as a work over its text.
use Rattle.std.specs.Prelude.{ℕ, Bool, false, List, [], ◌∷◌, drop, length, Result, Ok, Err, codes}
use Rattle.sd_sched.specs.Events.{is_end_event}
use Rattle.sd_sched.specs.declared.Event.{Event}
use Rattle.sd_sched.specs.declared.LineFault.{LineFault}
use Rattle.sd_history.specs.World.{Setting}
use Rattle.sd_record.specs.logs.Lines.{entry_of_line}
use Rattle.sd_record.specs.logs.Reasons.{line_reason}
use Rattle.sd_record.specs.declared.logs.Entry.{Entry}
use Rattle.sd_files.specs.declared.Status.TheVariants.{Done}
use Rattle.sd_files.specs.work.Works.{Work}
use Rattle.sd_record.specs.Printed.{schedule_text}
use Rattle.sd_record.specs.Reasons.{apply_name}
use Rattle.sd_record.specs.Recorded.{Events, record_entry}

-- the history that the lines have left so far
abbrev pub latest : List (List Event) → List Event
latest [] = []
latest (events ∷ earlier) = events

-- the history that an entry leaves, or the words that say why it is refused
abbrev pub in_words : Events → Result (List Event) (List ℕ)
in_words (Ok events) = Ok events
in_words (Err why) = Err (apply_name why)

-- the history that a line leaves after this one, or why it is refused
abbrev pub said : Setting → List Event → Result Entry LineFault → Result (List Event) (List ℕ)
said setting events (Ok entry) = in_words (record_entry setting entry events)
said setting events (Err why) = Err (line_reason why)

-- the history has ended
abbrev pub has_ended : List Event → Bool
has_ended [] = false
has_ended (e ∷ earlier) = is_end_event e

-- the lines of the schedule that came since
abbrev pub lines_since : (start events : List Event) → List ℕ
lines_since start events = drop (length (schedule_text start)) (schedule_text events)

-- for each line of the log those of the schedule are written that it adds
abbrev pub record_work : Setting → Work (List Event)
record_work setting =
    record {
      name = codes "log";
      says = λ taken line. said setting (latest taken) (entry_of_line line);
      ends = has_ended;
      bytes = λ taken events. lines_since (latest taken) events;
      last_pieces = λ taken. [];
      last_status = λ taken. Done;
    }
