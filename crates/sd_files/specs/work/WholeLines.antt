-- A work that writes whole lines.
use Rattle.std.specs.Prelude.{List, IsTrue}
use Rattle.sd_files.specs.work.Leaving.{are_lines}
use Rattle.sd_files.specs.work.Works.{Work}

-- what is written for a line is whole lines
abbrev pub WritesWhole : {E : Type 0} → Work E → Type 0
WritesWhole {E = E} work = (taken : List E) (x : E) → IsTrue (are_lines (work.bytes taken x))
