use Rattle.std.proofs.Common.{◌≡◌}
use Rattle.toml.specs.Data.{string}
use Rattle.toml.specs.View.{items_of, items_view}
use Rattle.sd_gen.specs.fabric.Fabrics.{link_name}
use Rattle.sd_gen.proofs.fabric.Numbering.{numbered}
use Rattle.sd_gen.proofs.fabric.arrays.leaf_links.Given as goal

abbrev pub invariant-spines : goal.invariant-spines
invariant-spines l = items_view l.items.items ≡ items_of (numbered (λ k. string (link_name l.leaf k)) l.spine)
