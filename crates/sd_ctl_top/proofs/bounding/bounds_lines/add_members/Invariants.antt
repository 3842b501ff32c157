use Rattle.std.proofs.Common.{◌≡◌, ◌++◌, take}
use Rattle.std.specs.Prelude.{flat_map}
use Rattle.sd_plan.specs.topo.Topologies.{network}
use Rattle.sd_ctl_top.specs.bounding.Printed.{bounds_line}
use Rattle.sd_ctl_top.proofs.bounding.bounds_lines.add_members.Given as goal

-- the lines of the members so far were added
abbrev pub invariant-loop-d : goal.invariant-loop-d
invariant-loop-d l =
    l.text.items
    ≡ l.fn.text.items
    ++ flat_map (bounds_line (network l.topo) l.fn.page.domain l.fn.page.drill.now l.fn.page.tight.now l.fn.page.calm.now) (take l.d-index l.fn.page.members.now)
