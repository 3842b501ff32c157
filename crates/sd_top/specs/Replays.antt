-- What holds of what `replay` and `order` write for the texts of a topology, of plans and of a schedule.
use Rattle.std.specs.Prelude.{ℕ, List}
use Rattle.sd_sched.specs.declared.Event.{Event}
use Rattle.sd_history.specs.World.{Setting}
use Rattle.sd_files.specs.work.Works.{Work, reading}
use Rattle.sd_commands.specs.replay.Promises.{ReportsTruly}
use Rattle.sd_commands.specs.replay.Loaded.{AreLoaded}

-- where the topology and the plans are read and accepted: while clocks, oscillators and links are honest, each report of the schedule has its reference time
-- inside
abbrev pub RunsTruly : (Setting → Work Event) → (topology : List ℕ) (plans : List (List ℕ)) (schedule : List ℕ) → Type 0
RunsTruly work topology plans schedule = (setting : Setting) → AreLoaded topology plans setting → ReportsTruly setting (reading (work setting) schedule).taken
