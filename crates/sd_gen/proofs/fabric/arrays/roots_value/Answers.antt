use Rattle.std.proofs.Common.{ap, sym, ◌∙◌}
use Rattle.toml.specs.Data.{string}
use Rattle.sd_gen.specs.fabric.Numbered.{numbered_device_name}
use Rattle.sd_gen.proofs.fabric.Building.{items_more, array_whole, roots_numbered}
use Rattle.sd_gen.proofs.fabric.arrays.roots_value.Goals as goal

pub roots-preserved : goal.roots-preserved
roots-preserved c =
    items_more (λ k. string (numbered_device_name c.args.spines k)) c.roots.spine c.push.new.items.items c.roots.items.items c.of_text.result c.roots.invariant
    (c.of_text.ensures ∙ ap string c.in_ok-name.ensures) c.in_ok-push.ensures

pub returns : goal.returns
returns c =
    array_whole (λ k. string (numbered_device_name c.args.spines k))
    (c.args.spines) c.roots.spine c.roots.items.items c.of_array.result c.roots.auto.spine-end c.roots-test.false c.roots.invariant c.of_array.ensures
    ∙ sym (roots_numbered c.args.spines)
