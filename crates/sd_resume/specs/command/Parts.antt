-- Texts that are parts of a schedule: which of their lines are accepted, and what may be written after one.
use Rattle.std.specs.Prelude.{◌≡◌, ℕ, ◌+◌, true, List, [], length, Option, None, Some, Result, Ok, Err, codes}
use Rattle.sd_sched.specs.declared.Event.{Event}
use Rattle.sd_sched.specs.declared.LineFault.{LineFault}
use Rattle.sd_sched.specs.Lines.{event_of_line}
use Rattle.sd_history.specs.World.{Setting}
use Rattle.sd_history.specs.Chronicle.{chronicle}
use Rattle.sd_history.specs.Refusals.{refusal}
use Rattle.sd_history.specs.declared.ApplyFault.{ApplyFault}
use Rattle.sd_files.specs.Answering.{Allowed}
use Rattle.sd_files.specs.declared.Status.TheVariants.{Done, InputRefused}
use Rattle.sd_files.specs.work.Works.{Work, reading, refused_line}

-- the event, unless it is refused
abbrev pub unless_refused : Option ApplyFault → Event → Result Event (List ℕ)
unless_refused None e = Ok e
unless_refused (Some why) e = Err (codes "Refused")

-- what was read of a line gives its event, where that is accepted after these events, the newest first
abbrev pub accepted : Setting → List Event → Result Event LineFault → Result Event (List ℕ)
accepted setting events (Err why) = Err (codes "Refused")
accepted setting events (Ok e) = unless_refused (refusal setting (chronicle setting events) e) e

-- A part of a schedule: its lines are events, as `replay` accepts them. Others may follow, so no line has to be its end.
abbrev pub part_work : (name : List ℕ) → Setting → Work Event
part_work name setting =
    record {
      name = name;
      says = λ events line. accepted setting events (event_of_line line);
      ends = λ e. true;
      bytes = λ earlier e. [];
      last_pieces = λ events. [];
      last_status = λ events. Done;
    }

-- what may be written after lines that gave these events, the newest first; or that the next line is refused
abbrev pub AfterLines : Work Event → List Event → Option (List ℕ) → (List Event → Allowed) → Allowed
AfterLines work events None Then bytes status = Then events bytes status
AfterLines work events (Some why) Then bytes status = (bytes ≡ refused_line work (length events + 1) why) × (status ≡ InputRefused)

-- after a text
abbrev pub AfterPart : Work Event → (text : List ℕ) → (List Event → Allowed) → Allowed
AfterPart work text Then bytes status = AfterLines work (reading work text).taken (reading work text).refused Then bytes status
