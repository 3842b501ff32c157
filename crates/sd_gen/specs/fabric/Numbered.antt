-- The devices and links of a fabric by their numbers.
use Rattle.std.specs.Prelude.{ℕ, ◌-◌, ◌/◌, ◌%◌, List, nat_lt, if◌then◌else◌}
use Rattle.sd_plan.specs.topo.Network.{Device, Link}
use Rattle.sd_gen.specs.fabric.Fabrics.{spine_name, leaf_name, device_named, link_between}

-- the name of a device: the spines come first, then the leaves
abbrev pub numbered_device_name : (spines d : ℕ) → List ℕ
numbered_device_name spines d = if nat_lt d spines then spine_name d else leaf_name (d - spines)

-- device d, by the same order
abbrev pub device_at : (spines d : ℕ) → Device
device_at spines d = device_named (numbered_device_name spines d)

-- the links of the first leaf come first, then those of the second
abbrev pub link_at : (spines l : ℕ) → Link
link_at spines l = link_between spines (l / spines) (l % spines)
