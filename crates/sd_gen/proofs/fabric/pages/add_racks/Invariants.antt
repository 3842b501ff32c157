use Rattle.std.proofs.Common.{List, [], ◌∷◌, ◌++◌}
use Rattle.std.specs.Prelude.{codes, flat_map, string_bytes}
use Rattle.toml.specs.Tables.{Expression}
use Rattle.sd_num.specs.Lists.{below}
use Rattle.sd_gen.specs.fabric.Pages.{HasLines, section_of}
use Rattle.sd_gen.specs.fabric.Trees.{rack_tree}
use Rattle.sd_gen.proofs.fabric.pages.add_racks.Given as goal

abbrev pub invariant-racks : goal.invariant-racks
invariant-racks l =
    (lines : List Expression) → HasLines lines (string_bytes l.fn.text)
    → HasLines (lines ++ section_of (codes "domain") (flat_map (λ i. rack_tree l.spines i ∷ []) (below l.leaf))) (string_bytes l.text)
