-- The network of a case is one that a text can say, and has a root for each of its plans.
use Rattle.std.specs.Prelude.{ℕ, ◌≤◌, length, map}
use Rattle.std.proofs.Common.{arith, length-append}
use Rattle.sd_num.specs.Lists.{below}
use Rattle.sd_plan.specs.topo.Network.{Device}
use Rattle.sd_plan.specs.topo.Limits.{IsNetwork}
use Rattle.sd_plan.proofs.Numbered.{length-numbered}
use Rattle.sd_gen.specs.fabric.Fabrics.{device_named, fabric, leaf_name, spine_name}
use Rattle.sd_gen.proofs.fabric.Reading.{fabric_is_network as is_network}
use Rattle.sd_gen.specs.command.Sizes.{IsWithin}
use Rattle.sd_gen.specs.declared.command.FabricSize.{FabricSize}

pub fabric_is_network : (sizes : FabricSize) → IsWithin sizes → IsNetwork (fabric sizes.leaves sizes.spines)
fabric_is_network sizes within =
    let some = within.some_spines in is_network sizes.leaves sizes.spines (omega (arith, some)) within.few_leaves within.few_spines

pub has_two_devices : (leaves spines : ℕ) → 3 ≤ spines → 2 ≤ length (fabric leaves spines).devices
has_two_devices leaves spines some =
    let spine_at : ℕ → Device = λ j. device_named (spine_name j) in
    let leaf_at : ℕ → Device = λ i. device_named (leaf_name i) in
    let both = length-append (map spine_at (below spines)) (map leaf_at (below leaves)) in
    let count = length-numbered spine_at spines in
    omega (arith, both, count, some)
