-- What `solo` may write, write by write.
use Rattle.std.specs.Prelude.{ℕ, List}
use Rattle.sd_files.specs.Answering.{InWrites, MayWrite}
use Rattle.sd_files.specs.work.Works.{InSteps}
use Rattle.sd_top.specs.Schedules.{solo_work, IsSolo}

-- each step by one write
abbrev pub SoloIn : List ℕ → MayWrite
SoloIn schedule = InWrites (InSteps solo_work schedule) (IsSolo schedule)
