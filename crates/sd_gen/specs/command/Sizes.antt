-- The sizes of the network of a case.
use Rattle.std.specs.Prelude.{◌≤◌}
use Rattle.sd_gen.specs.declared.command.FabricSize.{FabricSize}

-- they are within their limits
pub record IsWithin (fabric : FabricSize) : Type 0 where
  pub some_leaves : 2 ≤ fabric.leaves
  pub few_leaves : fabric.leaves ≤ 256
  pub some_spines : 3 ≤ fabric.spines
  pub few_spines : fabric.spines ≤ 32
