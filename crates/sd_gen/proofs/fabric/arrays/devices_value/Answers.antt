use Rattle.std.proofs.Common.{ap, sym, ◌∙◌}
use Rattle.std.specs.Prelude.{◌+◌}
use Rattle.toml.specs.Data.{table}
use Rattle.sd_gen.specs.fabric.Numbered.{numbered_device_name}
use Rattle.sd_gen.specs.fabric.Trees.{device_tree}
use Rattle.sd_gen.proofs.fabric.Building.{items_more, array_whole, devices_numbered}
use Rattle.sd_gen.proofs.fabric.arrays.devices_value.Goals as goal

pub devices-preserved : goal.devices-preserved
devices-preserved c =
    items_more (λ d. table (device_tree (numbered_device_name c.args.spines d))) c.devices.d c.push.new.items.items c.devices.items.items c.in_ok-device.device
    c.devices.invariant (c.in_ok-device.ensures ∙ ap (λ n. table (device_tree n)) c.in_ok-name.ensures) c.in_ok-push.ensures

pub returns : goal.returns
returns c =
    array_whole (λ d. table (device_tree (numbered_device_name c.args.spines d)))
    (c.args.spines + c.args.leaves) c.devices.d c.devices.items.items c.of_array.result c.devices.auto.d-end c.devices-test.false c.devices.invariant
    c.of_array.ensures
    ∙ sym (devices_numbered c.args.leaves c.args.spines)
