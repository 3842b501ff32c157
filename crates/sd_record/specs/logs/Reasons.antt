-- Why a line is none of a log, as it is printed: in the words of a replay.
use Rattle.std.specs.Prelude.{ℕ, List, ◌++◌, codes, decimal}
use Rattle.sd_sched.specs.declared.LineFault.{LineFault}
use Rattle.sd_sched.specs.declared.LineFault.TheVariants.{UnknownWord, FieldCount, Number}

abbrev pub line_reason : LineFault → List ℕ
line_reason UnknownWord = codes "UnknownWord"
line_reason FieldCount = codes "FieldCount"
line_reason (Number field) = codes "Number " ++ decimal field
