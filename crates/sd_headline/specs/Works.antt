-- Works that read a schedule event by event and print what is due of each event.
use Rattle.std.specs.Prelude.{◌≡◌, ℕ, List, [], ◌∷◌, ◌++◌, length, None, Ok, Err, IsTrue}
use Rattle.sd_io.specs.outside.Pieces.{piece_of}
use Rattle.sd_num.specs.Lists.{map_or}
use Rattle.sd_sched.specs.declared.Event.{Event}
use Rattle.sd_history.specs.World.{Setting}
use Rattle.sd_history.specs.Steps.{Step}
use Rattle.sd_history.specs.Chronicle.{next_step, chronicle}
use Rattle.sd_history.specs.Refusals.{refusal}
use Rattle.sd_history.specs.Lines.{asked_report, reports}
use Rattle.sd_history.specs.Text.{bytes_of, device_name, done_bytes}
use Rattle.sd_replay.specs.wait.Printed.{bytes_at, waits_line}
use Rattle.sd_replay.specs.wait.Waits.{tally_of}
use Rattle.sd_files.specs.work.Works.{Work}
use Rattle.sd_headline.specs.Words.{is_one_line}

-- its accepted lines say events that a history over the setting accepts, and why a line is refused fits on one line
pub record ReadsEvents (setting : Setting) (work : Work Event) : Type 0 where
  pub accepted : (events : List Event) (line : List ℕ) (e : Event) → work.says events line ≡ Ok e → refusal setting (chronicle setting events) e ≡ None
  pub reasons : (events : List Event) (line why : List ℕ) → work.says events line ≡ Err why → IsTrue (is_one_line why)
  pub name : IsTrue (is_one_line work.name)

-- it prints the lines of each event, and `done` at the end
pub record PrintsEvents (setting : Setting) (work : Work Event) : Type 0 where
  pub reads : ReadsEvents setting work
  pub bytes : (earlier : List Event) (e : Event) → work.bytes earlier e ≡ bytes_of setting (chronicle setting (e ∷ earlier))
  pub last : (events : List Event) → work.last_pieces events ≡ piece_of (done_bytes (chronicle setting events))

-- the lines of commit wait of a step after others
abbrev pub wait_bytes : Setting → List Step → Step → List ℕ
wait_bytes setting earlier s =
    map_or (asked_report s) [] (λ told. bytes_at (reports (s ∷ earlier)) (length (reports earlier)) (device_name setting.net told.0))

-- it prints the lines of commit wait after those of each event, and how many there were at the end
pub record PrintsWaits (setting : Setting) (work : Work Event) : Type 0 where
  pub reads : ReadsEvents setting work
  pub bytes : (earlier : List Event) (e : Event) → work.bytes earlier e
      ≡ bytes_of setting (chronicle setting (e ∷ earlier)) ++ wait_bytes setting (chronicle setting earlier) (next_step setting (chronicle setting earlier) e)
  pub last : (events : List Event)
      → work.last_pieces events ≡ piece_of (done_bytes (chronicle setting events)) ++ piece_of (waits_line (tally_of (reports (chronicle setting events))))
