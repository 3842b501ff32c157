-- What a run leaves, before its end is a status.
use Rattle.std.specs.Prelude.{Bool, Option, None, Some, Result, Ok, Err}
use Rattle.sd_io.specs.outside.Pieces.{Pieces}
use Rattle.sd_files.specs.Answering.{MayWrite}
use Rattle.sd_files.specs.Stops.{status_of}
use Rattle.sd_files.specs.declared.Status.{Status}
use Rattle.sd_files.specs.declared.command_error.IoError.{IoError}
use Rattle.sd_files.specs.work.Leaving.{Leaves}

-- a command that ended, or was stopped
abbrev pub LeavesAt : Bool → MayWrite → Option Pieces → Option Pieces → Result Status IoError → Type 0
LeavesAt steps Writes old new (Ok status) = Leaves None steps Writes old new status
LeavesAt steps Writes old new (Err why) = Leaves (Some why) steps Writes old new (status_of why)
