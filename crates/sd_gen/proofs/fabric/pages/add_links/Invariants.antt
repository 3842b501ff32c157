use Rattle.std.proofs.Common.{List, ◌++◌, map}
use Rattle.std.specs.Prelude.{codes, flat_map, string_bytes}
use Rattle.toml.specs.Tables.{Expression}
use Rattle.sd_num.specs.Lists.{below}
use Rattle.sd_gen.specs.fabric.Pages.{HasLines, section_of}
use Rattle.sd_gen.specs.fabric.Trees.{link_tree}
use Rattle.sd_gen.proofs.fabric.pages.add_links.Given as goal

abbrev pub invariant-links : goal.invariant-links
invariant-links l =
    (lines : List Expression) → HasLines lines (string_bytes l.fn.text)
    → HasLines (lines ++ section_of (codes "link") (flat_map (λ i. map (link_tree i) (below l.spines)) (below l.leaf))) (string_bytes l.text)
