use Rattle.std.proofs.Common.{◌≡◌}
use Rattle.toml.specs.Data.{string}
use Rattle.toml.specs.View.{items_of, items_view}
use Rattle.sd_gen.specs.fabric.Numbered.{numbered_device_name}
use Rattle.sd_gen.proofs.fabric.Numbering.{numbered}
use Rattle.sd_gen.proofs.fabric.arrays.roots_value.Given as goal

abbrev pub invariant-roots : goal.invariant-roots
invariant-roots l = items_view l.items.items ≡ items_of (numbered (λ k. string (numbered_device_name l.spines k)) l.spine)
