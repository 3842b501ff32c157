-- What `bounds` of the second program writes and answers for the texts of its files.
use Rattle.std.specs.Prelude.{ℕ, List}
use Rattle.sd_drill_text.specs.Commands.{ByDomains}
use Rattle.sd_files.specs.Answering.{MayWrite}
use Rattle.sd_ctl_top.specs.bounding.Printed.{AreLinesOf, IsBounds}
use Rattle.sd_drill.specs.declared.Budget.{Budget}

-- `bounds`: the numbers of each device under each domain of an accepted plan, each domain by one write; or the line of the plan's breach
abbrev pub IsBounding : List ℕ → List ℕ → Budget → MayWrite
IsBounding topology plan budget = ByDomains AreLinesOf IsBounds topology plan budget
