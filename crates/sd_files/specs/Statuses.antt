-- The statuses of a run: their codes, and which of them say that it was stopped.
use Rattle.std.specs.Prelude.{ℕ, Bool, nat_eq, List, Option, None, Some}
use Rattle.std.specs.List.{list_any}
use Rattle.sd_files.specs.declared.Status.{Status}
use Rattle.sd_files.specs.declared.Status.TheVariants.{Done, PlanRefused, Usage, InputRefused, ShelfFault, SinkFault, Memory, Broken}
use Rattle.sd_files.specs.declared.command_error.IoError.{IoError}
use Rattle.sd_files.specs.declared.command_error.IoError.TheVariants as stop

-- the exit code of the program
abbrev pub code_of : Status → ℕ
code_of Done = 0
code_of PlanRefused = 1
code_of Usage = 2
code_of InputRefused = 3
code_of ShelfFault = 4
code_of SinkFault = 5
code_of Memory = 6
code_of Broken = 7

-- what stopped a run with this status from outside; another status is its answer
abbrev pub stop_of : Status → Option IoError
stop_of ShelfFault = Some stop.Shelf
stop_of SinkFault = Some stop.Sink
stop_of Memory = Some stop.Memory
stop_of _ = None

-- the status is among these
abbrev pub is_among : List Status → Status → Bool
is_among statuses status = list_any (λ s. nat_eq (code_of s) (code_of status)) statuses
