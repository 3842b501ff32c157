use Rattle.std.proofs.Common.{◌≡◌}
use Rattle.sd_plan.specs.topo.Seen.{devices_seen}
use Rattle.sd_gen.specs.fabric.Numbered.{device_at}
use Rattle.sd_gen.proofs.fabric.Numbering.{numbered}
use Rattle.sd_gen.proofs.fabric.parts.devices.Given as goal

abbrev pub invariant-devices : goal.invariant-devices
invariant-devices l = devices_seen l.devices ≡ numbered (device_at l.spines) l.d
