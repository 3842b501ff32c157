-- The events that a schedule text says, and the state after some of its lines.
use Rattle.std.specs.Prelude.{ℕ, List, [], ◌∷◌, Result, Ok, Err, reverse, take}
use Rattle.sd_io.specs.stream.Lines.{lines}
use Rattle.sd_sched.specs.Lines.{event_of_line}
use Rattle.sd_sched.specs.declared.Event.{Event}
use Rattle.sd_sched.specs.declared.LineFault.{LineFault}
use Rattle.sd_history.specs.World.{Setting}
use Rattle.sd_history.specs.Steps.{Step}
use Rattle.sd_history.specs.Chronicle.{chronicle}

-- an event before the others, unless one of those has a fault
abbrev pub then_events : Event → Result (List Event) LineFault → Result (List Event) LineFault
then_events e (Ok es) = Ok (e ∷ es)
then_events e (Err fault) = Err fault

-- what the events of the other lines are, once the first line has one
abbrev pub with_others : Result Event LineFault → Result (List Event) LineFault → Result (List Event) LineFault
with_others (Ok e) others = then_events e others
with_others (Err fault) others = Err fault

-- the events of the lines, the first line first, or the fault of the first line that has one
abbrev pub events_of_lines : List (List ℕ) → Result (List Event) LineFault
events_of_lines [] = Ok []
events_of_lines (line ∷ others) = with_others (event_of_line line) (events_of_lines others)

-- the events of a schedule text
abbrev pub events_of : List ℕ → Result (List Event) LineFault
events_of text = events_of_lines (lines text)

-- the steps after the first n lines
abbrev pub after_line : Setting → List Event → ℕ → List Step
after_line setting events n = chronicle setting (reverse (take n events))
