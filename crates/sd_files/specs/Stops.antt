-- The status of a run that was stopped.
use Rattle.std.specs.Prelude.{Result, Ok, Err}
use Rattle.sd_files.specs.declared.Status.{Status}
use Rattle.sd_files.specs.declared.Status.TheVariants.{ShelfFault, SinkFault, Memory}
use Rattle.sd_files.specs.declared.command_error.IoError.{IoError}
use Rattle.sd_files.specs.declared.command_error.IoError.TheVariants as stop

-- the status of a run that was stopped
abbrev pub status_of : IoError → Status
status_of stop.Shelf = ShelfFault
status_of stop.Sink = SinkFault
status_of stop.Memory = Memory

-- the status of a run that ended or was stopped
abbrev pub status_in : Result Status IoError → Status
status_in (Ok status) = status
status_in (Err why) = status_of why
