-- What `replay` and `order` write and answer for the texts of a topology, of plans and of a schedule.
use Rattle.std.specs.Prelude.{ℕ, Bool, ◌||◌, List, [], ◌∷◌, ◌++◌, length, nat_lt, Option, None, Some, Result, Ok, Err, codes, option_map, if◌then◌else◌}
use Rattle.sd_num.specs.Lists.{map_or}
use Rattle.sd_plan.specs.topo.Network.{Network}
use Rattle.sd_sched.specs.declared.Event.{Event}
use Rattle.sd_sched.specs.declared.LineFault.{LineFault}
use Rattle.sd_sched.specs.Lines.{event_of_line}
use Rattle.sd_sched.specs.Events.{is_end_event}
use Rattle.sd_history.specs.World.{Setting, setting_over}
use Rattle.sd_history.specs.Steps.{Step}
use Rattle.sd_history.specs.Chronicle.{chronicle}
use Rattle.sd_history.specs.Refusals.{refusal}
use Rattle.sd_history.specs.Lines.{asked_report, reports}
use Rattle.sd_history.specs.Text.{bytes_of, device_name, done_bytes}
use Rattle.sd_history.specs.declared.ApplyFault.{ApplyFault}
use Rattle.sd_replay.specs.Tallies.{tally_of, shows_trouble}
use Rattle.sd_replay.specs.wait.Waits.{tally_of as waits_of}
use Rattle.sd_replay.specs.wait.Printed.{bytes_at, waits_line}
use Rattle.sd_io.specs.outside.Pieces.{piece_of}
use Rattle.sd_files.specs.Answering.{Allowed, After}
use Rattle.sd_files.specs.Inputs.{topology_of}
use Rattle.sd_files.specs.declared.Status.{Status}
use Rattle.sd_files.specs.declared.Status.TheVariants.{Done, Broken}
use Rattle.sd_files.specs.declared.command_error.Refusal.{Refusal}
use Rattle.sd_files.specs.planfiles.PlanFiles.{AfterAllPlans, plans_of}
use Rattle.sd_files.specs.work.Works.{Work, IsOutcome, refused_part}
use Rattle.sd_commands.specs.replay.Reasons.{line_reason, apply_name}

-- Reading

-- the event, unless there is a fault
abbrev pub unless_refused : Option ApplyFault → Event → Result Event (List ℕ)
unless_refused None e = Ok e
unless_refused (Some why) e = Err (apply_name why)

-- an event is accepted after these events, the newest first, or it is refused
abbrev pub accepted : Setting → List Event → Result Event LineFault → Result Event (List ℕ)
accepted setting events (Err why) = Err (line_reason why)
accepted setting events (Ok e) = unless_refused (refusal setting (chronicle setting events) e) e

-- the event of a line, if it is accepted after these events
abbrev pub event_said : Setting → List Event → List ℕ → Result Event (List ℕ)
event_said setting events line = accepted setting events (event_of_line line)

-- Writing

-- the status of a schedule that has ended: whether it shows some trouble
abbrev pub status_if : Bool → Status
status_if trouble = if trouble then Broken else Done

-- the lines of commit wait of the latest step, after these
abbrev pub waits_after : Setting → List Step → Step → List ℕ
waits_after setting earlier s =
    map_or (asked_report s) [] (λ told. bytes_at (reports (s ∷ earlier)) (length (reports earlier)) (device_name setting.net told.0))

-- the lines of the latest step, with those of commit wait after them
abbrev pub with_waits : Setting → List Step → List ℕ
with_waits setting [] = []
with_waits setting (s ∷ earlier) = bytes_of setting (s ∷ earlier) ++ waits_after setting earlier s

-- some premise broke, some alarm was due, or there was some disorder
abbrev pub shows_disorder : Setting → List Step → Bool
shows_disorder setting steps = shows_trouble (tally_of setting steps) || nat_lt 0 (waits_of (reports steps)).disorders

module _ (setting : Setting) where
  -- after each event stand its lines, by one write, and `done` at the end
  abbrev pub replay_work : Work Event
  replay_work =
      record {
        name = codes "schedule";
        says = event_said setting;
        ends = is_end_event;
        bytes = λ earlier e. bytes_of setting (chronicle setting (e ∷ earlier));
        last_pieces = λ events. piece_of (done_bytes (chronicle setting events));
        last_status = λ events. status_if (shows_trouble (tally_of setting (chronicle setting events)));
      }

  -- the same with the lines of commit wait, and their count by a write of its own
  abbrev pub order_work : Work Event
  order_work =
      record {
        name = codes "schedule";
        says = event_said setting;
        ends = is_end_event;
        bytes = λ earlier e. with_waits setting (chronicle setting (e ∷ earlier));
        last_pieces = λ events. piece_of (done_bytes (chronicle setting events)) ++ piece_of (waits_line (waits_of (reports (chronicle setting events))));
        last_status = λ events. status_if (shows_disorder setting (chronicle setting events));
      }

-- The commands

-- what may be written over a topology and plans by a work over them
abbrev pub IsRun : (Setting → Work Event) → (topology : List ℕ) (plans : List (List ℕ)) (schedule : List ℕ) → Allowed
IsRun work topology plans schedule bytes status =
    After (topology_of topology) (λ net. AfterAllPlans net plans (λ accepted. IsOutcome (work (setting_over net accepted)) schedule)) bytes status

-- what `replay` may write
abbrev pub IsReplay : (topology : List ℕ) (plans : List (List ℕ)) (schedule : List ℕ) → Allowed
IsReplay topology plans schedule bytes status = IsRun replay_work topology plans schedule bytes status

-- what `order` may write
abbrev pub IsOrder : (topology : List ℕ) (plans : List (List ℕ)) (schedule : List ℕ) → Allowed
IsOrder topology plans schedule bytes status = IsRun order_work topology plans schedule bytes status

-- What stands in the schedule from the line on at which it is refused, where the topology and the plans are read. `order` refuses the same lines as
-- `replay`, since both works say the same of a line.
abbrev pub refused_over : Result Network Refusal → (plans : List (List ℕ)) (schedule : List ℕ) → Option (List ℕ)
refused_over (Ok net) plans schedule = option_map (λ read. refused_part (replay_work (setting_over net read)) schedule) (plans_of net 1 plans)
refused_over (Err why) plans schedule = None
