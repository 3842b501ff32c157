use Rattle.std.proofs.Common.{◌≡◌}
use Rattle.toml.specs.Data.{table}
use Rattle.toml.specs.View.{items_of, items_view}
use Rattle.sd_gen.specs.fabric.Numbered.{numbered_device_name}
use Rattle.sd_gen.specs.fabric.Trees.{device_tree}
use Rattle.sd_gen.proofs.fabric.Numbering.{numbered}
use Rattle.sd_gen.proofs.fabric.arrays.devices_value.Given as goal

abbrev pub invariant-devices : goal.invariant-devices
invariant-devices l = items_view l.items.items ≡ items_of (numbered (λ d. table (device_tree (numbered_device_name l.spines d))) l.d)
