-- For which work a recording stands that goes through a log.
use Rattle.std.specs.Prelude.{◌≡◌, false, List}
use Rattle.std.specs.List.{list_any}
use Rattle.sd_sched.specs.declared.Event.{Event}
use Rattle.sd_history.specs.World.{Setting}
use Rattle.sd_files.specs.work.Works.{Work}
use Rattle.sd_record.specs.Standing.{StandsFor}
use Rattle.sd_record.specs.Works.{has_ended, latest, record_work}
use Rattle.sd_record.specs.declared.work.Recording.{Recording}

-- Lines were taken that left these histories, the newest first. The recorder stands for the latest one while no line is refused.
pub record DoesRecord (state : Recording) (work : Work (List Event)) (taken : List (List Event)) : Type 0 where
  pub setting : Setting
  pub is : work ≡ record_work setting
  pub stands : state.refused ≡ false → StandsFor state.recorder setting (latest taken)
  pub ended : state.ended ≡ list_any has_ended taken
