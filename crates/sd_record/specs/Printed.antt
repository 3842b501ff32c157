-- The text of a schedule.
use Rattle.std.specs.Prelude.{ℕ, List, [], ◌∷◌, ◌++◌}
use Rattle.sd_sched.specs.Spelled.{line_of_event}
use Rattle.sd_sched.specs.declared.Event.{Event}

-- the line of an event, with its newline
abbrev pub line_bytes : Event → List ℕ
line_bytes e = line_of_event e ++ 10 ∷ []

-- the lines of events, of which the newest comes first here and last in the text
abbrev pub schedule_text : List Event → List ℕ
schedule_text [] = []
schedule_text (e ∷ earlier) = schedule_text earlier ++ line_bytes e
