-- What a command over a schedule may write, write by write.
use Rattle.std.specs.Prelude.{ℕ, List}
use Rattle.sd_sched.specs.declared.Event.{Event}
use Rattle.sd_history.specs.World.{Setting}
use Rattle.sd_files.specs.Answering.{InWrites, MayWrite}
use Rattle.sd_files.specs.work.Works.{Work}
use Rattle.sd_commands.specs.replay.Replays.{IsRun}
use Rattle.sd_commands.specs.replay.Loaded.{RunsInSteps}

-- what may be written, by these writes
abbrev pub RunsIn : (Setting → Work Event) → (topology : List ℕ) (plans : List (List ℕ)) (schedule : List ℕ) → MayWrite
RunsIn work topology plans schedule = InWrites (RunsInSteps work topology plans schedule) (IsRun work topology plans schedule)
