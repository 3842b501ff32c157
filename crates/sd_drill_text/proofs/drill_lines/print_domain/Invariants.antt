use Rattle.std.proofs.Common.{◌≡◌, ℕ, List, [], ◌∷◌, take}
use Rattle.std.specs.Prelude.{flat_map, codes}
use Rattle.sd_plan.specs.topo.Topologies.{network}
use Rattle.sd_checker.specs.Text.{domain_words}
use Rattle.sd_drill.specs.Printed.{bound_line}
use Rattle.sd_drill_text.specs.Endings.{AreEndings}
use Rattle.sd_drill_text.specs.Printing.{front_of}
use Rattle.sd_io.specs.outside.Printed.{printed}
use Rattle.sd_drill_text.proofs.drill_lines.print_domain.Given as goal

abbrev pub invariant-loop-d : goal.invariant-loop-d
invariant-loop-d l =
    (kind : List ℕ) × (name : List ℕ) × (domain_words (network l.topo) l.fn.domain ≡ kind ∷ name ∷ [])
    × (printed l.page.bound_front ≡ front_of (codes "bound") kind name) × (printed l.page.nobound_front ≡ front_of (codes "nobound") kind name)
    × (l.page.text.items ≡ flat_map (bound_line (network l.topo) l.fn.domain l.bounds) (take l.d-index l.members))
    × AreEndings (network l.topo) l.page.endings.items
