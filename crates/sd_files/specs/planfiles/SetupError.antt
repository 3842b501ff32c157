-- What is written where a command ends early.
use Rattle.std.specs.Prelude.{◌≡◌, Result, Ok, Err}
use Rattle.sd_files.specs.declared.Status.TheVariants.{PlanRefused}
use Rattle.sd_files.specs.declared.command_error.Answer.{Answer}
use Rattle.sd_files.specs.declared.command_error.CommandError.{CommandError}
use Rattle.sd_files.specs.declared.planfiles.setup_error.SetupError.{SetupError}
use Rattle.sd_files.specs.declared.planfiles.setup_error.SetupError.TheVariants.{Answered, Stopped}

-- the answer that was made, or why there is none
abbrev pub made_of : SetupError → Result Answer CommandError
made_of (Answered answer) = Ok answer
made_of (Stopped why) = Err why

-- a command that is answered before its plans are there is answered so
abbrev pub IsPlanRefused : SetupError → Type 0
IsPlanRefused (Answered answer) = answer.status ≡ PlanRefused
IsPlanRefused (Stopped why) = Unit {0}
