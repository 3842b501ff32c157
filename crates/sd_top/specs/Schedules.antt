-- What the schedule of one device alone says, line by line, and what is written for it.
use Rattle.std.specs.Prelude.{◌≡◌, ℕ, List, [], ◌∷◌, Option, None, Some, Result, Ok, Err, codes, IsTrue}
use Rattle.sd_sched.specs.declared.Event.{Event}
use Rattle.sd_sched.specs.declared.LineFault.{LineFault}
use Rattle.sd_sched.specs.Events.{is_end_event}
use Rattle.sd_commands.specs.declared.solo.SoloFault.{SoloFault}
use Rattle.sd_commands.specs.solo.Faults.{fault_name}
use Rattle.sd_commands.specs.solo.Histories.{refusal, bytes_of, done_text}
use Rattle.sd_commands.specs.solo.Lines.{solo_event}
use Rattle.sd_commands.specs.solo.Promises.{start_holds, drift_holds, reports_truly}
use Rattle.sd_io.specs.outside.Pieces.{piece_of}
use Rattle.sd_files.specs.Answering.{Allowed}
use Rattle.sd_files.specs.declared.Status.{Status}
use Rattle.sd_files.specs.declared.Status.TheVariants.{Done}
use Rattle.sd_files.specs.work.Works.{IsOutcome, Work, reading}
use Rattle.sd_commands.specs.replay.Reasons.{line_reason}

-- the event, unless there is a fault
abbrev pub unless_refused : Option SoloFault → Event → Result Event (List ℕ)
unless_refused None e = Ok e
unless_refused (Some why) e = Err (fault_name why)

-- an event is accepted after these events, the newest first, or it is refused
abbrev pub accepted : List Event → Result Event LineFault → Result Event (List ℕ)
accepted events (Err why) = Err (line_reason why)
accepted events (Ok e) = unless_refused (refusal events e) e

-- the schedule ends with an `end`, and each ask is written for
abbrev pub solo_work : Work Event
solo_work =
    record {
      name = codes "schedule";
      says = λ events line. accepted events (solo_event line);
      ends = is_end_event;
      bytes = bytes_of;
      last_pieces = λ events. piece_of (done_text events);
      last_status = λ events. Done;
    }

-- what `solo` writes and answers for the text of a schedule
abbrev pub IsSolo : List ℕ → Allowed
IsSolo = IsOutcome solo_work

-- of each of these events, the newest first: where the clock that each start and fix set was right, and the oscillator kept its rates, up to that event, the
-- report that it prints has its reference time inside
abbrev pub ReportsTruly : List Event → Type 0
ReportsTruly [] = Unit {0}
ReportsTruly (e ∷ earlier) = ReportsTruly earlier × (IsTrue (start_holds (e ∷ earlier)) → IsTrue (drift_holds (e ∷ earlier)) → IsTrue (reports_truly earlier e))

-- a schedule that is not refused is done
abbrev pub SoloCompletes : Type 0
SoloCompletes = (schedule : List ℕ) → (reading solo_work schedule).refused ≡ None → (bytes : List ℕ) (status : Status) → IsSolo schedule bytes status
    → status ≡ Done
