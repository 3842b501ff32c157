use Rattle.std.proofs.Common.{◌≡◌, ◌++◌, take, string_bytes}
use Rattle.sd_plan.specs.topo.Topologies.{network}
use Rattle.sd_checker.specs.Named.{named}
use Rattle.sd_checker.proofs.text.add_names.Given as goal

-- the names so far were added
abbrev pub invariant-loop-d : goal.invariant-loop-d
invariant-loop-d l = string_bytes l.line ≡ string_bytes l.fn.line ++ named (network l.topo) (take l.d-index l.devices)
