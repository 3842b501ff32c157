use Rattle.std.proofs.Common.{sym, ◌∙◌}
use Rattle.toml.specs.Data.{table}
use Rattle.sd_gen.specs.fabric.Trees.{link_tree}
use Rattle.sd_gen.proofs.fabric.Building.{items_more, array_whole, tables_numbered}
use Rattle.sd_gen.proofs.fabric.arrays.links_value.Goals as goal

pub links-preserved : goal.links-preserved
links-preserved c =
    items_more (λ j. table (link_tree c.args.leaf j)) c.links.spine c.push.new.items.items c.links.items.items c.in_ok-link.link c.links.invariant
    (c.in_ok-link.ensures) c.in_ok-push.ensures

pub returns : goal.returns
returns c =
    array_whole (λ j. table (link_tree c.args.leaf j)) (c.args.spines) c.links.spine c.links.items.items c.of_array.result c.links.auto.spine-end
    c.links-test.false c.links.invariant c.of_array.ensures
    ∙ sym (tables_numbered (link_tree c.args.leaf) c.args.spines)
