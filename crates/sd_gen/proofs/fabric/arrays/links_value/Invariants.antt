use Rattle.std.proofs.Common.{◌≡◌}
use Rattle.toml.specs.Data.{table}
use Rattle.toml.specs.View.{items_of, items_view}
use Rattle.sd_gen.specs.fabric.Trees.{link_tree}
use Rattle.sd_gen.proofs.fabric.Numbering.{numbered}
use Rattle.sd_gen.proofs.fabric.arrays.links_value.Given as goal

abbrev pub invariant-links : goal.invariant-links
invariant-links l = items_view l.items.items ≡ items_of (numbered (λ j. table (link_tree l.leaf j)) l.spine)
