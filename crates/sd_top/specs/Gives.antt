-- What a command makes, whatever its files are.
use Rattle.std.specs.Prelude.{List, Result, Ok, Err, IsTrue}
use Rattle.sd_files.specs.Statuses.{is_among}
use Rattle.sd_files.specs.declared.Status.{Status}
use Rattle.sd_files.specs.declared.command_error.Answer.{Answer}
use Rattle.sd_files.specs.declared.command_error.CommandError.{CommandError}

-- the status of what was made is among these
abbrev pub GivesAmong : List Status → Result Answer CommandError → Type 0
GivesAmong statuses (Ok answer) = IsTrue (is_among statuses answer.status)
GivesAmong statuses (Err why) = Unit {0}
