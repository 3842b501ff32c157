use Rattle.std.proofs.Common.{ap, sym, ◌∙◌}
use Rattle.toml.specs.Data.{string}
use Rattle.sd_gen.specs.fabric.Fabrics.{link_name}
use Rattle.sd_gen.proofs.fabric.Building.{items_more, array_whole, strings_numbered}
use Rattle.sd_gen.proofs.fabric.arrays.leaf_links.Goals as goal

pub spines-preserved : goal.spines-preserved
spines-preserved c =
    items_more (λ k. string (link_name c.args.leaf k)) c.spines.spine c.push.new.items.items c.spines.items.items c.of_text.result c.spines.invariant
    (c.of_text.ensures ∙ ap string c.in_ok-name.ensures) c.in_ok-push.ensures

pub returns : goal.returns
returns c =
    array_whole (λ k. string (link_name c.args.leaf k)) (c.args.spines) c.spines.spine c.spines.items.items c.of_array.result c.spines.auto.spine-end
    c.spines-test.false c.spines.invariant c.of_array.ensures
    ∙ sym (strings_numbered (link_name c.args.leaf) c.args.spines)
