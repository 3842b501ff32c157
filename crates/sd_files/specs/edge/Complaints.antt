-- What is said of a run that was stopped from outside.
use Rattle.std.specs.Prelude.{ℕ, List, Option, None, Some, codes, slice_get, unwrap_or}
use Rattle.std.specs.declared.io.Error.{Error}
use Rattle.sd_io.specs.declared.outside.LastFault.{LastFault}
use Rattle.sd_files.specs.declared.Status.{Status}
use Rattle.sd_files.specs.declared.Status.TheVariants.{ShelfFault, SinkFault, Memory}

-- the words for a file whose name is not known
abbrev pub a_file : List ℕ
a_file = codes "a file"

-- the name of a file by its number: the files of a command are the words after its own
abbrev pub file_named : List (List ℕ) → ℕ → List ℕ
file_named words number = unwrap_or (slice_get words number) a_file

-- which file could not be read, and why
abbrev pub unread : List (List ℕ) → Option LastFault → List ℕ × Option Error
unread words (Some fault) = (file_named words fault.file, Some fault.reason)
unread words None = (a_file, None)

-- what failed, and the system's reason: nothing is said of a run that gave an answer
abbrev pub complaint_of : Status → List (List ℕ) → Option LastFault → Option Error → Option (List ℕ × Option Error)
complaint_of ShelfFault words fault reason = Some (unread words fault)
complaint_of SinkFault words fault reason = Some (codes "standard output", reason)
complaint_of Memory words fault reason = Some (codes "out of memory", None)
complaint_of _ words fault reason = None
